use Prim.Native.Nat.{ℕ}
use mathlib.Core.Path.{ap, ◌∙◌}
use mathlib.Core.List.{List}
use native.Mathlib.Omega.{arith}
use lib.ListN.{length, take, drop}
use Rattle.records.proofs.Written.{carried}
use Rattle.records.proofs.write_values.Goals as goal

pub returns-in-Attested : goal.returns-in-Attested
returns-in-Attested c = rw (c.requires, c.in-Attested.is) (carried 8 (omega arith) (c.copy_from_slice.ensures.len ∙ ap (λ (l : List ℕ). length (take 8 (drop 1 l))) c.requires) c.copy_from_slice.ensures.after)

pub returns-in-Runs : goal.returns-in-Runs
returns-in-Runs c = rw (c.requires, c.in-Runs.is) (carried 17 (omega arith) (c.copy_from_slice-in-Runs.ensures.len ∙ ap (λ (l : List ℕ). length (take 17 (drop 1 l))) c.requires) c.copy_from_slice-in-Runs.ensures.after)
