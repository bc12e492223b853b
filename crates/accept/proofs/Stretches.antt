-- A list in chunks, and slots passed in stretches. Assumes nothing.
use Prim.Native.Nat.{ℕ, zero, suc, ◌+◌, ◌-◌, ◌*◌, ◌/◌, ◌≤◌, ◌<◌}
use mathlib.Core.Path.{◌≡◌, sym, subst, ◌∙◌}
use mathlib.Core.Bool.{Bool, true, false}
use mathlib.Core.List.{List, []}
use native.Mathlib.Decide.{dec_lt}
use native.Mathlib.Numerals.{unary_clauses}
use native.Mathlib.Omega.{arith}
use lib.ListN.{length, get_or, take, drop, length-take, length-drop}
use lib.Seq.{get_or-drop, get_or-take}
use borrow.Author.Count.{below_more}
use Rattle.std.specs.Simd.{first_chunks}
use Rattle.std.proofs.lemmas.List.{drop-drop}
use Rattle.accept.specs.Checks.{stretch, Used, SlotsTake}

-- chunk i of the k chunks of n elements
pub chunk_at : (n k : ℕ) (xs : List ℕ) (i : ℕ) → i < k → get_or (first_chunks n k xs) i [] ≡ take n (drop (n * i) xs)
chunk_at n zero xs i l = absurd (omega arith)
chunk_at n (suc k) xs zero l = simp unary_clauses
chunk_at n (suc k) xs (suc i) l =
    let e : n + n * i ≡ n * suc i = omega arith in
    chunk_at n k (drop n xs) i (omega arith) ∙ rw (drop-drop, e)

-- each slot in use before n passed
abbrev pub Passed : (ℕ → ℕ → Bool → Type 0) → List ℕ → ℕ → Type 0
Passed post ss n = (j : ℕ) → j < n → Used ss j → post j (get_or ss j 0) true

-- ---- stretch k of the slots, a row
module _ (ss : List ℕ) {rows : List (List ℕ)} (cut : rows ≡ first_chunks stretch (length ss / stretch) ss) {k : ℕ} (l : k < length ss / stretch) where
  pub row_size : length (get_or rows k []) ≡ stretch
  row_size = rw (cut, chunk_at stretch (length ss / stretch) ss k l) (simp (length-take, length-drop) (omega arith))

  pub slot_at : (i : ℕ) → i < stretch → get_or (get_or rows k []) i 0 ≡ get_or ss (stretch * k + i) 0
  slot_at i m =
      rw (cut, chunk_at stretch (length ss / stretch) ss k l)
      (get_or-take stretch (drop (stretch * k) ss) i 0 m ∙ get_or-drop (stretch * k) ss i 0)

  -- its slot i is in use
  module _ {i : ℕ} (m : i < stretch) (full : get_or (get_or rows k []) i 0 ≡ 0 → ⊥) where
    used : Used ss (stretch * k + i)
    used = (omega arith, λ e. full (slot_at i m ∙ e))

    pub row_takes : (pre : ℕ → ℕ → Type 0) → SlotsTake pre ss → pre (stretch * k + i) (get_or (get_or rows k []) i 0)
    row_takes pre all = subst (pre (stretch * k + i)) (sym (slot_at i m)) (all (stretch * k + i) used)

    pub row_fails : (post : ℕ → ℕ → Bool → Type 0) → post (stretch * k + i) (get_or (get_or rows k []) i 0) false
        → (j : ℕ) × Used ss j × post j (get_or ss j 0) false
    row_fails post h = (stretch * k + i, used, subst (λ v. post (stretch * k + i) v false) (slot_at i m) h)

  module _ (post : ℕ → ℕ → Bool → Type 0) where
    -- one slot more: it passes, or is empty
    pub slot_more : {i : ℕ} → i < stretch → Passed post ss (stretch * k + i) → post (stretch * k + i) (get_or (get_or rows k []) i 0) true
        → Passed post ss (stretch * k + (i + 1))
    slot_more {i} m p h j below =
        below_more (λ x. Used ss x → post x (get_or ss x 0) true) (stretch * k + i) p
        (λ u. subst (λ v. post (stretch * k + i) v true) (slot_at i m) h) j (omega arith)

    pub slot_empty : {i : ℕ} → i < stretch → Passed post ss (stretch * k + i) → get_or (get_or rows k []) i 0 ≡ 0
        → Passed post ss (stretch * k + (i + 1))
    slot_empty {i} m p e j below =
        below_more (λ x. Used ss x → post x (get_or ss x 0) true) (stretch * k + i) p
        (λ u. absurd (u.1 (sym (slot_at i m) ∙ e))) j (omega arith)

    -- the whole stretch: slot by slot, or all of it empty
    pub stretch_more : {i : ℕ} → stretch ≤ i → Passed post ss (stretch * k + i) → Passed post ss (stretch * (k + 1))
    stretch_more m p j h = p j (omega arith)

    pub stretch_empty : Passed post ss (stretch * k) → ((i : ℕ) → 0 ≤ i → i < length (get_or rows k []) → get_or (get_or rows k []) i 0 ≡ 0)
        → Passed post ss (stretch * (k + 1))
    stretch_empty p z j h u = go (dec_lt j (stretch * k))
      where
        go : Dec (j < stretch * k) → post j (get_or ss j 0) true
        go (yes below) = p j below u
        go (no not-below) = absurd (u.1 (rest (j - stretch * k) (omega arith) (omega arith)))
          where
            rest : (i : ℕ) → j ≡ stretch * k + i → i < stretch → get_or ss j 0 ≡ 0
            rest i e m = rw e (sym (slot_at i m) ∙ z i (omega arith) (rw row_size m))
