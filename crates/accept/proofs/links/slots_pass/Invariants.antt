-- Each slot passed that is in use passed the test.
use Prim.Native.Nat.{◌+◌, ◌*◌}
use Rattle.accept.specs.Checks.{stretch}
use Rattle.accept.proofs.Stretches.{Passed}
use Rattle.accept.proofs.links.slots_pass.Given as goal

abbrev pub invariant-loop-k : goal.invariant-loop-k
invariant-loop-k g l = Passed (goal.F-post g l.pass) l.slots (stretch * l.k)

abbrev pub invariant-loop-i : goal.invariant-loop-i
invariant-loop-i g l = Passed (goal.F-post g l.pass) l.slots (stretch * l.k + l.i)
