-- No page passed is a space.
use Rattle.ledger.specs.Ledger.{rec}
use Rattle.accept.specs.Checks.{NoSpace}
use Rattle.accept.proofs.counts.first_space.Given as goal

abbrev pub invariant-loop-a : goal.invariant-loop-a
invariant-loop-a l = NoSpace l.a (rec l.led)
