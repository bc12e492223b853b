-- Each space passed has the counts that the pass over the pages gave.
use Prim.Native.Nat.{ℕ, ◌<◌}
use mathlib.Core.Path.{◌≡◌}
use Rattle.words.specs.Words.{sum_below}
use Rattle.ledger.specs.Names.{space}
use Rattle.ledger.specs.Ledger.{rec}
use Rattle.accept.specs.Accept.{counted, measured, tally}
use Rattle.accept.specs.Checks.{Count}
use Rattle.accept.proofs.counts.counts_ok.Given as goal

abbrev pub invariant-loop-a : goal.invariant-loop-a
invariant-loop-a l =
    (x : ℕ) → x < l.a → rec l.led x 0 ≡ space
    → Count l.n (rec l.led) x (sum_below l.n (tally counted (rec l.led) x)) (sum_below l.n (tally measured (rec l.led) x))
