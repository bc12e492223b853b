-- What the pages of one owner add to its sums, counted page by page into an array. Assumes nothing.
use Prim.Native.Nat.{ℕ, zero, suc, ◌+◌, ◌*◌, ◌/◌, ◌%◌, ◌≤◌, ◌<◌}
use mathlib.Core.Path.{◌≡◌, refl, sym, ◌∙◌}
use mathlib.Core.Bool.{Bool, true, false}
use mathlib.Core.List.{List}
use native.Mathlib.Decide.{ℕ_discrete}
use native.Mathlib.Omega.{arith}
use lib.Dec.{eqb, ltb}
use lib.ListN.{get_or, set, replicate, length-set, length-replicate}
use lib.Seq.{get_or-set_same, get_or-set_other}
use borrow.Author.Tests.{eq-eqb, ne_eqb, lt-ltb, le-ltb}
use Rattle.words.specs.Words.{sum_below, pick}
use Rattle.words.proofs.Sums.{sum_bound, sum_suc}
use Rattle.words.proofs.Cases.{pick_le}
use Rattle.words.proofs.Lists.{zeros_at}
use Rattle.machine.specs.Machine.{most_pages}
use Rattle.ledger.specs.Names.{space, thread, data_page, data_blocks}
use Rattle.accept.specs.Accept.{Words, counted, measured, tally}
use Rattle.accept.specs.Checks.{Count, block_step, weight, Tallied}

pub tally_at : (g : ℕ → ℕ) (w : Words) (a p : ℕ) → w p 1 ≡ a → tally g w a p ≡ g (w p 0)
unfolding tally
tally_at g w a p e = rw (eq-eqb (w p 1) a e)

pub tally_off : (g : ℕ → ℕ) (w : Words) (a p : ℕ) → (w p 1 ≡ a → ⊥) → tally g w a p ≡ 0
unfolding tally
tally_off g w a p e = rw (ne_eqb (w p 1) a e)

-- ---- what a page of type t adds
module _ {t : ℕ} where
  pub weight_thread : t ≡ 2 → 1 + block_step ≡ weight t
  weight_thread e = rw e

  pub weight_data : t ≡ 5 → 1 + block_step * data_blocks ≡ weight t
  weight_data e = rw e

  pub weight_owned : (t ≡ 2 → ⊥) → (t ≡ 5 → ⊥) → 1 < t → 1 ≡ weight t
  weight_owned n m l = simp (lt-ltb 1 t l, ne_eqb t 2 n, ne_eqb t 5 m)

  pub weight_none : t ≤ 1 → 0 ≡ weight t
  weight_none l = simp (le-ltb 1 t l, ne_eqb t 2 (λ e. omega arith), ne_eqb t 5 (λ e. omega arith))

-- ---- and at most
abbrev most : ℕ
most = 1 + block_step * data_blocks

counted_le : (t : ℕ) → counted t ≤ 1
counted_le t = pick_le (ltb space t) 1 0 1 (omega arith) (omega arith)

measured_le : (t : ℕ) → measured t ≤ data_blocks
measured_le t =
    pick_le (eqb t thread) 1 (pick (eqb t data_page) data_blocks 0) data_blocks (omega arith)
    (pick_le (eqb t data_page) data_blocks 0 data_blocks (omega arith) (omega arith))

pub weight_le : (t : ℕ) → weight t ≤ most
weight_le t = omega (arith, counted_le t, measured_le t)

-- sums stay small, and so does a counter
tally_le : (g : ℕ → ℕ) (c : ℕ) → ((t : ℕ) → g t ≤ c) → (w : Words) (a q : ℕ) → tally g w a q ≤ c
unfolding tally
tally_le g c le w a q = pick_le (eqb (w q 1) a) (g (w q 0)) 0 c (le (w q 0)) (omega arith)

pub count_sum : (n : ℕ) (w : Words) (a : ℕ) → sum_below n (tally counted w a) ≤ 1 * n
count_sum n w a = sum_bound n 1 (tally counted w a) (tally_le counted 1 counted_le w a)

pub measured_sum : (n : ℕ) (w : Words) (a : ℕ) → sum_below n (tally measured w a) ≤ data_blocks * n
measured_sum n w a = sum_bound n data_blocks (tally measured w a) (tally_le measured data_blocks measured_le w a)

pub small : (w : Words) (n : ℕ) (c : List ℕ) (a : ℕ) → Tallied weight w n c → a < most_pages → get_or c a 0 ≤ most * n
small w n c a i l = rw (i.sums a l) (sum_bound n most (tally weight w a) (tally_le weight most weight_le w a))

-- ---- the two sums of one counter
module _ (w : Words) (a : ℕ) where
  weighed : (p : ℕ) → tally weight w a p ≡ tally counted w a p + block_step * tally measured w a p
  unfolding tally
  weighed p = go (eqb (w p 1) a)
    where
      go : (x : Bool) → pick x (weight (w p 0)) 0 ≡ pick x (counted (w p 0)) 0 + block_step * pick x (measured (w p 0)) 0
      go true = refl
      go false = refl

  both : (n : ℕ) → sum_below n (tally weight w a) ≡ sum_below n (tally counted w a) + block_step * sum_below n (tally measured w a)
  unfolding sum_below
  both zero = refl
  both (suc n) = omega (arith, both n, weighed n)

  module _ {n s : ℕ} (few : n ≤ most_pages) (is : s ≡ sum_below n (tally weight w a)) where
    pub owned_part : s % block_step ≡ sum_below n (tally counted w a)
    owned_part = omega (arith, both n, count_sum n w a)

    pub blocks_part : s / block_step ≡ sum_below n (tally measured w a)
    blocks_part = omega (arith, both n, count_sum n w a)

-- ---- the array before the first page, and after one more
pub tallied_none : (g : ℕ → ℕ) (w : Words) → Tallied g w 0 (replicate most_pages 0)
unfolding sum_below
tallied_none g w = record { size = length-replicate {A = ℕ} most_pages 0; sums = λ a l. zeros_at most_pages a }

module _ (g : ℕ → ℕ) (w : Words) (p : ℕ) (c : List ℕ) (i : Tallied g w p c) (a : ℕ) (own : a ≡ w p 1) where
  pub tallied_off : most_pages ≤ a → Tallied g w (p + 1) c
  tallied_off h =
      record {
        size = i.size;
        sums = λ x l. i.sums x l ∙ omega (arith, sum_suc p (tally g w x), tally_off g w x p (λ e. omega arith));
      }

  pub tallied_on : (k : ℕ) → k ≡ g (w p 0) → a < most_pages → Tallied g w (p + 1) (set c a (get_or c a 0 + k))
  tallied_on k e l = record { size = length-set c a (get_or c a 0 + k) ∙ i.size; sums = λ x lx. here x lx (ℕ_discrete x a) }
    where
      here : (x : ℕ) → x < most_pages → Dec (x ≡ a) → get_or (set c a (get_or c a 0 + k)) x 0 ≡ sum_below (p + 1) (tally g w x)
      here x lx (yes q) =
          rw q
          (get_or-set_same c a (get_or c a 0 + k) 0 (omega (arith, i.size))
          ∙ omega (arith, i.sums a l, sum_suc p (tally g w a), tally_at g w a p (sym own)))
      here x lx (no n) =
          get_or-set_other c a x (get_or c a 0 + k) 0 n
          ∙ omega (arith, i.sums x lx, sum_suc p (tally g w x), tally_off g w x p (λ z. n (sym z ∙ sym own)))

pub count_same : {n a o k x y : ℕ} {w : Words} → o ≡ x → k ≡ y → Count n w a o k → Count n w a x y
count_same e f c = rw (← e, ← f) c
