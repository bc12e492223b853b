-- Images and ledgers of before are refused. Assumes nothing.
use Prim.Native.Nat.{ℕ, zero, suc, ◌+◌, ◌*◌, ◌≤◌}
use mathlib.Core.Path.{◌≡◌, refl, sym, ap, ◌∙◌}
use mathlib.Core.List.{List}
use mathlib.Core.Logic.{◌⊎◌, ⊎_elim, inl, inr}
use native.Mathlib.Omega.{arith}
use lib.ListN.{length, get_or, set}
use Rattle.words.specs.Bytes.{word_at}
use Rattle.machine.specs.declared.Machine.{Machine}
use Rattle.machine.specs.Machine.{Fits}
use Rattle.ledger.specs.Ledger.{header, rec, map_bit}
use Rattle.accept.specs.Accept.{Words, free_flag, Accepted}
use Rattle.accept.proofs.FreeMap.{past_pages, in_use, is_free, map_past}
use Rattle.image.specs.Image.{total, total_word}
use Rattle.image.specs.Service.{BlocksCounted, BlockRead, BlockRead.good, BlockRead.bad, BlockRead.over, BlockRead.not_fitting}
use Rattle.image.proofs.Inside.{total_most}
use Rattle.kept.proofs.Facts.Bridge.{bit_says}
use Rattle.promises.specs.Settled.{Given}
use Rattle.promises.specs.Older.{OldImagesAreRefused, OldMap, OldLedgersAreRefused}
use Rattle.promises.proofs.Settled.{lent}

-- a block that is not refused has the word 2 of now
read : {b : Machine} {M L P B : List ℕ} {r : ℕ} {M' L' P' : List ℕ} → BlockRead b M L P B r M' L' P' → Given b M L → length P ≡ 4 → get_or P 0 0 ≡ 0
    → (word_at B 2 ≡ total_word b) ⊎ ((r ≡ 25) × (M' ≡ M) × (L' ≡ L) × (P' ≡ set P 0 25))
read (good _ _ g _ _ _ _) x s z = inl g.totals
read (bad _ _ _ e m l p) x s z = inr (e, m, l, p)
read (over _ n _ _ _ _) x s z = absurd (n z)
read (not_fitting n _ _ _ _) x s z = absurd (n (record { lent = lent x; progress = s }))

counted : {b : Machine} {r : ℕ} → BlocksCounted b r → (r ≡ 0) ⊎ (Fits b × (r ≡ total b))
counted (BlocksCounted.done f e) = inr (f, e)
counted (BlocksCounted.not_fitting _ e) = inl e

pub old_images_are_refused : OldImagesAreRefused
unfolding total_word
old_images_are_refused =
    record {
      refused = λ b M L P B r M' L' P' x g s z low. ⊎_elim (λ e. absurd (omega arith)) (λ y. y) (read x g s z);
      old_totals = λ n T x. omega (arith, x.0, x.2);
      at_block_0 = λ b M L B r M' L' P' n x g o. ⊎_elim (λ e. absurd (omega (arith, o.0, o.2))) (λ y. y) (read x g refl refl);
      totals = λ b r x. ⊎_elim (λ e. omega arith) (λ y. omega (arith, y.1, total_most b y.0)) (counted x);
    }

-- ---- an old ledger of n+1 pages, read as one of n: the same bits say of page p, and of page p + 1, whether it is free
module _ (b : Machine) (M L : List ℕ) (old : OldMap (b.pages + 1) L) (ok : Accepted b M L) where
  abbrev n : ℕ
  n = b.pages

  -- the old ledger's records
  abbrev was : Words
  was q k = get_or L (32 + 32 * q + k) 0

  same : (p : ℕ) → p ≤ n → free_flag (n + 1) was p ≡ free_flag n (rec L) p
  unfolding map_bit header
  same p l = let few = old.few in sym (old.free_map p (omega arith)) ∙ bit_says ok p (omega arith)

  -- so none is free, from the last one down
  not_free : (c p : ℕ) → p + c ≡ n → was p 0 ≡ 0 → ⊥
  unfolding rec
  not_free zero p e z = omega (arith, is_free (n + 1) was p (omega arith) z, same p (omega arith), past_pages n (rec L) p (omega arith))
  not_free (suc c) p e z =
      let next : rec L p 0 ≡ was (p + 1) 0 = ap (λ (x : ℕ). get_or L x 0) {x = 64 + 32 * p + 0} {y = 32 + 32 * (p + 1) + 0} (omega arith) in
      omega (
        arith,
        is_free (n + 1) was p (omega arith) z,
        same p (omega arith),
        in_use n (rec L) p (omega arith) (λ f. not_free c (p + 1) (omega arith) (sym next ∙ f)),
      )

  -- and page 0 is: its type is a word of the map of now, of pages that are not there
  first_free : was 0 0 ≡ 0
  unfolding header
  first_free = let few = old.few in ok.rules.header.free_map 23 (omega arith) ∙ sym (map_past n (rec L) 23 (omega arith))

  none_such : ⊥
  none_such = not_free n 0 (omega arith) first_free

pub old_ledgers_are_refused : OldLedgersAreRefused
old_ledgers_are_refused b M L old ok = none_such b M L old ok
