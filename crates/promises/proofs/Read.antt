-- Words that are read one by one. Assumes nothing.
use Prim.Native.Nat.{ℕ, zero, suc, ◌+◌, ◌-◌, ◌≤◌, ◌<◌}
use mathlib.Core.Path.{◌≡◌, refl, sym, ap, ap₂, ◌∙◌}
use mathlib.Core.List.{List, [], ◌∷◌}
use native.Mathlib.Omega.{arith}
use lib.ListN.{length, get_or}
use Rattle.ledger.specs.Ledger.{rec, hash}

-- f i, f (i + 1), .., n of them
abbrev pub from : ℕ → ℕ → (ℕ → ℕ) → List ℕ
from zero i f = []
from (suc n) i f = f i ∷ from n (i + 1) f

pub from_same : (n i : ℕ) (f g : ℕ → ℕ) → ((k : ℕ) → i ≤ k → k < i + n → f k ≡ g k) → from n i f ≡ from n i g
from_same zero i f g e = refl
from_same (suc n) i f g e =
    ap₂ (λ (x : ℕ) (xs : List ℕ). x ∷ xs) (e i (omega arith) (omega arith))
    (from_same n (i + 1) f g (λ k lo hi. e k (omega arith) (omega arith)))

pub from_is : (n i : ℕ) (f : ℕ → ℕ) (vs : List ℕ) → length vs ≡ n → ((j : ℕ) → j < n → f (i + j) ≡ get_or vs j 0) → from n i f ≡ vs
from_is zero i f [] e h = refl
from_is zero i f (v ∷ vs) e h = absurd (omega arith)
from_is (suc n) i f [] e h = absurd (omega arith)
from_is (suc n) i f (v ∷ vs) e h =
    ap₂ (λ (x : ℕ) (xs : List ℕ). x ∷ xs) (ap f {x = i} {y = i + 0} (omega arith) ∙ h 0 (omega arith))
    (from_is n (i + 1) f vs (omega arith) (λ j l. ap f {x = i + 1 + j} {y = i + suc j} (omega arith) ∙ h (suc j) (omega arith)))

from_at : (n i : ℕ) (f : ℕ → ℕ) (j : ℕ) → j < n → get_or (from n i f) j 0 ≡ f (i + j)
from_at zero i f j l = absurd (omega arith)
from_at (suc n) i f zero l = ap f {x = i} {y = i + 0} (omega arith)
from_at (suc n) i f (suc j) l = from_at n (i + 1) f j (omega arith) ∙ ap f {x = i + 1 + j} {y = i + suc j} (omega arith)

-- the hash of space a: its eight words are those of h; they stay
pub hash_is : (L : List ℕ) (a : ℕ) (h : List ℕ) → length h ≡ 8 → ((i : ℕ) → i < 8 → rec L a (6 + i) ≡ get_or h i 0) → hash L a ≡ h
hash_is L a = from_is 8 6 (rec L a)

pub hash_same : (L L' : List ℕ) (a : ℕ) → ((j : ℕ) → 6 ≤ j → j < 14 → rec L' a j ≡ rec L a j) → hash L' a ≡ hash L a
hash_same L L' a = from_same 8 6 (rec L' a) (rec L a)

-- and equal hashes have equal words
pub hash_word : (L L' : List ℕ) (a k : ℕ) → hash L' a ≡ hash L a → 6 ≤ k → k < 14 → rec L' a k ≡ rec L a k
hash_word L L' a k e lo hi =
    let whole : 6 + (k - 6) ≡ k = omega arith in
    rw whole at
    (sym (from_at 8 6 (rec L' a) (k - 6) (omega arith)) ∙ ap (λ (l : List ℕ). get_or l (k - 6) 0) e ∙ from_at 8 6 (rec L a) (k - 6) (omega arith))
