-- After page p each owner's counter holds the sum over the pages up to it.
use Rattle.ledger.specs.Ledger.{rec}
use Rattle.accept.specs.Checks.{weight, Tallied}
use Rattle.accept.proofs.counts.tallies.Given as goal

abbrev pub invariant-loop-p : goal.invariant-loop-p
invariant-loop-p l = Tallied weight (rec l.led) l.p l.sums
