use native.Mathlib.Omega.{arith}
use Rattle.accept.proofs.header.running_ok.Goals as goal

pub returns-then-b-t : goal.returns-then-b-t
returns-then-b-t c x = omega (arith, (x c.in-Some.t (omega (arith, c.in-Some.ensures))).below)
