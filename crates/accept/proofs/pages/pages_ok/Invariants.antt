-- Each page passed is what its type asks.
use Prim.Native.Nat.{ℕ, ◌<◌}
use Rattle.ledger.specs.Ledger.{rec}
use Rattle.memory.specs.Memory.{frame}
use Rattle.accept.specs.Checks.{Page}
use Rattle.accept.proofs.pages.pages_ok.Given as goal

abbrev pub invariant-loop-p : goal.invariant-loop-p
invariant-loop-p l = (q : ℕ) → q < l.p → Page l.b (rec l.led) (frame l.mem) q (rec l.led q 0)
