-- `run` meets its contract. The loop's invariant: what is answered so far, with the batch of what is left, is the whole batch.
use mathlib.Core.Path.{◌≡◌}
use lib.ListN.{length}
use Rattle.batch.specs.Batch.{batch}
use Rattle.batch.specs.Turns.{so_far}
use Rattle.batch.proofs.list.run.Given as goal

abbrev pub invariant-loop-j : goal.invariant-loop-j
invariant-loop-j l =
    (length l.mem ≡ length l.initial.mem) × (length l.led ≡ length l.initial.led) × (length l.answers ≡ length l.initial.answers)
    × (so_far l.b l.k l.j l.mem l.led l.calls l.answers ≡ batch l.b l.k l.initial.mem l.initial.led l.calls)
