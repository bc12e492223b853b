-- A list of words behind the first word of an answer record. Assumes nothing.
use Prim.Native.Nat.{ℕ, ◌+◌, ◌-◌, ◌≤◌}
use mathlib.Core.Path.{◌≡◌, sym, ap, ◌∙◌}
use mathlib.Core.List.{List, ◌∷◌, ◌++◌}
use native.Mathlib.Omega.{arith}
use lib.ListN.{length, take, replicate}
use Rattle.std.proofs.Math.Seq.{take-append-add}
use Rattle.std.proofs.lemmas.List.{take-replicate}
use Rattle.words.specs.Words.{padded}

-- zeros behind a list, up to k words
filled_up : (k m : ℕ) (xs : List ℕ) → length xs ≤ k → k ≤ m → xs ++ replicate (k - length xs) 0 ≡ take k (xs ++ replicate m 0)
filled_up k m xs low high =
    sym
    (ap (λ (i : ℕ). take i (xs ++ replicate m 0)) {x = k} {y = length xs + (k - length xs)} (omega arith)
    ∙ take-append-add xs (replicate m 0) (k - length xs)
    ∙ ap (λ (l : List ℕ). xs ++ l) (take-replicate (k - length xs) m 0 (omega arith)))

-- n words behind a zero, the rest of the 32 as it was: zeros
pub carried : {ws xs : List ℕ} (n : ℕ) → n ≤ 31 → length xs ≡ n → xs ≡ ws → 0 ∷ (xs ++ replicate (31 - n) 0) ≡ padded (0 ∷ ws)
unfolding padded
carried {ws} {xs} n low long is = ap (λ (l : List ℕ). 0 ∷ l) (rw (← long, ← is) (filled_up 31 32 xs (omega arith) (omega arith)))
