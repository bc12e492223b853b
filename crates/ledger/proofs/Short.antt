-- A record whose word 2 is zero is a record of two words. Assumes nothing.
use Rattle.std.proofs.Common.{◌≡◌, ℕ, List, [], ◌∷◌, refl}
use Rattle.words.specs.Words.{padded}
use Rattle.ledger.specs.Ledger.{anew, occupy}

pub anew_short : (L : List ℕ) (p t a : ℕ) → anew L p (t ∷ a ∷ 0 ∷ []) ≡ anew L p (t ∷ a ∷ [])
unfolding anew padded
anew_short L p t a = refl

pub occupy_short : (L : List ℕ) (p t a : ℕ) → occupy L p (t ∷ a ∷ 0 ∷ []) ≡ occupy L p (t ∷ a ∷ [])
unfolding occupy anew padded
occupy_short L p t a = refl
