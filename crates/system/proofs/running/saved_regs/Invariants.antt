-- The registers so far are those of the record.
use Rattle.std.proofs.Common.{◌≡◌, ◌+◌, take}
use Rattle.words.specs.Words.{list_below}
use Rattle.ledger.specs.Ledger.{rec}
use Rattle.system.proofs.running.saved_regs.Given as goal

abbrev pub invariant-loop-i : goal.invariant-loop-i
invariant-loop-i l = take l.i l.reg-items ≡ list_below l.i (λ i. rec l.led l.t (4 + i))
