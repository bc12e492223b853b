-- All words of a list zero: as a test of the list, and as a demand on each of its words. Assumes nothing.
use Prim.Native.Nat.{ℕ, zero, suc, ◌+◌, ◌-◌, ◌≤◌, ◌<◌}
use mathlib.Core.Path.{◌≡◌, refl, sym, ap, ◌∙◌}
use mathlib.Core.Bool.{Bool, true, false, ◌&&◌, true≢false}
use mathlib.Core.List.{List, [], ◌∷◌}
use native.Mathlib.Omega.{arith}
use lib.Dec.{eqb}
use lib.ListN.{length, get_or, drop, length-drop}
use lib.Seq.{get_or-drop}
use borrow.Author.Tests.{eq-eqb, eqb-true}
use Rattle.std.proofs.Common.{fold, bit_or}
use Rattle.std.specs.List.{between}
use Rattle.std.proofs.lemmas.Slice.{between_to_end}
use Rattle.std.proofs.lemmas.Nat.{le_or_l, le_or_r}
use Rattle.words.specs.Words.{Says, all_zero}
use Rattle.words.proofs.Says.{says_same_number}

pub both : (p q : Bool) → (p && q) ≡ true → (p ≡ true) × (q ≡ true)
both true q e = (refl, e)
both false q e = absurd (true≢false (sym e))

all_zero_lem : (ws : List ℕ) → ((k : ℕ) → k < length ws → get_or ws k 0 ≡ 0) → all_zero ws ≡ true
unfolding all_zero
all_zero_lem [] h = refl
all_zero_lem (x ∷ xs) h = rw (eq-eqb x 0 (h 0 (omega arith))) (all_zero_lem xs (λ k l. h (suc k) (omega arith)))

pub each_zero : (ws : List ℕ) → all_zero ws ≡ true → (k : ℕ) → k < length ws → get_or ws k 0 ≡ 0
unfolding all_zero
each_zero [] e k l = refl
each_zero (x ∷ xs) e zero l = eqb-true x 0 (both (eqb x 0) (all_zero xs) e).0
each_zero (x ∷ xs) e (suc k) l = each_zero xs (both (eqb x 0) (all_zero xs) e).1 k (omega arith)

-- ---- a loop that takes the words from lo on together, by `|`
or_zero : (a b : ℕ) → bit_or a b ≡ 0 → (a ≡ 0) × (b ≡ 0)
or_zero a b e = (omega (arith, le_or_l a b), omega (arith, le_or_r a b))

seen_zero : (xs : List ℕ) (s : ℕ) → fold bit_or s xs ≡ 0 → (s ≡ 0) × ((k : ℕ) → get_or xs k 0 ≡ 0)
seen_zero [] s e = (e, λ k. refl)
seen_zero (x ∷ xs) s e =
    let h = seen_zero xs (bit_or s x) e in
    let here = or_zero s x h.0 in
    (here.0, λ k. elim k as (λ k. get_or (x ∷ xs) k 0 ≡ 0) [ zero ↦ here.1 | suc k ↦ h.1 k ])

zero_seen : (xs : List ℕ) → ((k : ℕ) → k < length xs → get_or xs k 0 ≡ 0) → fold bit_or 0 xs ≡ 0
zero_seen [] h = refl
zero_seen (x ∷ xs) h = rw (h 0 (omega arith)) (zero_seen xs (λ k l. h (suc k) (omega arith)))

-- R is `&W[lo..]`
pub seen_says : (W : List ℕ) (lo : ℕ) {R : List ℕ} {seen : ℕ} → R ≡ between lo (length W) W → seen ≡ fold bit_or 0 R
    → Says (eqb seen 0) ((k : ℕ) → lo ≤ k → k < length W → get_or W k 0 ≡ 0)
seen_says W lo {R} r e =
    says_same_number _ _
    (λ z k l m. ap (λ (x : ℕ). get_or W x 0) {x = k} {y = lo + (k - lo)} (omega arith) ∙ sym (at (k - lo)) ∙ (seen_zero R 0 (sym e ∙ z)).1 (k - lo))
    (λ h. e ∙ zero_seen R (λ k l. at k ∙ h (lo + k) (omega arith) (omega (arith, length-drop lo W, ap length from))))
  where
    from : R ≡ drop lo W
    from = r ∙ between_to_end W lo (length W) (omega arith)

    at : (k : ℕ) → get_or R k 0 ≡ get_or W (lo + k) 0
    at k = rw from (get_or-drop lo W k 0)

-- what a test of each word from i on says of the list
pub zeros_said : {r : Bool} (W : List ℕ) (i : ℕ) → Says r ((k : ℕ) → i ≤ k → k < length W → get_or W k 0 ≡ 0) → r ≡ all_zero (drop i W)
zeros_said {r = true} W i h =
    sym (all_zero_lem (drop i W) (λ k l. get_or-drop i W k 0 ∙ h (i + k) (omega arith) (omega (arith, length-drop i W))))
zeros_said {r = false} W i h = go (all_zero (drop i W)) refl
  where
    go : (z : Bool) → all_zero (drop i W) ≡ z → false ≡ z
    go true e =
        absurd
        (h
        λ k l m. ap (λ (x : ℕ). get_or W x 0) {x = k} {y = i + (k - i)} (omega arith)
        ∙ sym (get_or-drop i W (k - i) 0)
        ∙ each_zero (drop i W) e (k - i) (omega (arith, length-drop i W)))
    go false e = refl
