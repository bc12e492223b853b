-- `read_full` keeps to the text.
use Prim.Native.Nat.{◌≤◌}
use lib.ListN.{length}
use Rattle.shift.proofs.input.read_full.Given as goal

abbrev pub invariant-loop : goal.invariant-loop
invariant-loop g l = l.done ≤ length l.text
