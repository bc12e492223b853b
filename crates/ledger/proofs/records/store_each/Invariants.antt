-- What is stored so far, and then the rest, is the whole.
use Rattle.std.proofs.Common.{◌≡◌, ◌+◌, drop}
use Rattle.ledger.specs.Ledger.{puts}
use Rattle.ledger.proofs.records.store_each.Given as goal

abbrev pub invariant-loop-i : goal.invariant-loop-i
invariant-loop-i l = puts l.led l.p (l.k + l.i) (drop l.i l.vs) ≡ puts l.initial.led l.p l.k l.vs
