-- Lists of words: zeros, a list read word by word, and the list of f 0, f 1, .. Assumes nothing.
use Prim.Native.Nat.{ℕ, zero, suc, ◌+◌, ◌<◌}
use mathlib.Core.Path.{◌≡◌, refl, sym, ap, ◌∙◌}
use mathlib.Core.List.{List, [], ◌∷◌, ◌++◌}
use native.Mathlib.Omega.{arith}
use native.Mathlib.Decide.{dec_lt}
use lib.ListN.{length, get_or, drop, replicate, length-append, drop_of_length-le, get_or-append}
use lib.Seq.{get_or-append-add, drop-cons}
use Rattle.words.specs.Words.{list_below}

-- a word of zeros is zero, past their end too
pub zeros_at : (n i : ℕ) → ◌≡◌ {A = ℕ} (get_or (replicate n 0) i 0) 0
zeros_at zero i = refl
zeros_at (suc n) zero = refl
zeros_at (suc n) (suc i) = zeros_at n i

-- ---- n words of vs from word i on, each read by its index
abbrev pub listed : ℕ → ℕ → List ℕ → List ℕ
listed zero i vs = []
listed (suc n) i vs = get_or vs i 0 ∷ listed n (suc i) vs

listed_is : (n i : ℕ) (vs : List ℕ) → length vs ≡ i + n → listed n i vs ≡ drop i vs
listed_is zero i vs e = sym (drop_of_length-le vs {i = i} (omega arith))
listed_is (suc n) i vs e = ap (λ (ws : List ℕ). get_or vs i 0 ∷ ws) (listed_is n (suc i) vs (omega arith)) ∙ sym (drop-cons vs i 0 (omega arith))

pub listed_all : (n : ℕ) (vs : List ℕ) → length vs ≡ n → listed n 0 vs ≡ vs
listed_all n vs e = listed_is n 0 vs (omega arith)

-- ---- f 0, f 1, ..
pub length-list_below : (n : ℕ) (f : ℕ → ℕ) → length (list_below n f) ≡ n
unfolding list_below
length-list_below zero f = refl
length-list_below (suc n) f = length-append (list_below n f) (f n ∷ []) ∙ omega (arith, length-list_below n f)

pub list_below_at : (n : ℕ) (f : ℕ → ℕ) (j : ℕ) → j < n → get_or (list_below n f) j 0 ≡ f j
unfolding list_below
list_below_at zero f j l = absurd (omega arith)
list_below_at (suc n) f j l = go (dec_lt j n) (λ h. list_below_at n f j h)
  where
    long : length (list_below n f) ≡ n
    long = length-list_below n f

    go : Dec (j < n) → (j < n → get_or (list_below n f) j 0 ≡ f j) → get_or (list_below n f ++ (f n ∷ [])) j 0 ≡ f j
    go (yes h) below = get_or-append (list_below n f) (f n ∷ []) 0 j (rw long h) ∙ below h
    go (no h) below =
        ap (λ (x : ℕ). get_or (list_below n f ++ (f n ∷ [])) x 0) {x = j} {y = length (list_below n f) + 0} (omega (arith, long))
        ∙ get_or-append-add (list_below n f) (f n ∷ []) 0 0
        ∙ ap f {x = n} {y = j} (omega arith)
