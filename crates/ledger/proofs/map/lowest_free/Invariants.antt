-- The words passed are 0.
use Rattle.std.proofs.Common.{◌≡◌, ℕ, ◌<◌}
use Rattle.ledger.proofs.Ones.{map_at}
use Rattle.ledger.proofs.map.lowest_free.Given as goal

abbrev pub invariant-loop-j : goal.invariant-loop-j
invariant-loop-j l = (i : ℕ) → i < l.j → map_at l.led i ≡ 0
