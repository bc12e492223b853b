-- The first words are those of the free map.
use Prim.Native.Nat.{ℕ, ◌<◌}
use mathlib.Core.Path.{◌≡◌}
use lib.ListN.{get_or}
use Rattle.boot.specs.Boot.{fresh_map}
use Rattle.boot.proofs.fresh_maps.Given as goal

abbrev pub invariant-loop-j : goal.invariant-loop-j
invariant-loop-j l = (k : ℕ) → k < l.j → get_or l.word-items k 0 ≡ fresh_map l.b k
