-- What one page adds to the sums of an owner. Assumes nothing.
use Prim.Native.Nat.{ℕ, ◌<◌}
use mathlib.Core.Path.{◌≡◌, ◌∙◌}
use mathlib.Core.Logic.{⊎_elim}
use borrow.Author.Tests.{lt-ltb}
use Rattle.words.proofs.Cases.{same_or}
use Rattle.ledger.specs.Names.{space}
use Rattle.accept.specs.Accept.{Words, tally, counted}
use Rattle.accept.proofs.Sums.{tally_at, tally_off}

-- ---- one page's part of a sum
pub tally_none : (g : ℕ → ℕ) (w : Words) (a p : ℕ) → g (w p 0) ≡ 0 → tally g w a p ≡ 0
tally_none g w a p z = ⊎_elim (λ e. tally_at g w a p e ∙ z) (λ n. tally_off g w a p n) (same_or (w p 1) a)

pub tally_same : (g : ℕ → ℕ) (w w' : Words) (a p : ℕ) → w' p 0 ≡ w p 0 → w' p 1 ≡ w p 1 → tally g w a p ≡ tally g w' a p
unfolding tally
tally_same g w w' a p e₀ e₁ = rw (e₀, e₁)

pub counted_high : (t : ℕ) → space < t → counted t ≡ 1
counted_high t l = rw (lt-ltb space t l)
