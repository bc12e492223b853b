-- `read` counts the words that it fills. Assumes nothing.
use Rattle.std.proofs.Common.{◌≤◌, length}
use Rattle.shift.proofs.input.read.Given as goal

abbrev pub invariant-loop-slot : goal.invariant-loop-slot
invariant-loop-slot l = l.given ≤ length l.yielded
