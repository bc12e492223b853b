-- The sum so far is that of the words passed.
use Rattle.std.proofs.Common.{◌≡◌, ◌*◌}
use Rattle.words.specs.Words.{sum_below}
use Rattle.ledger.specs.Ledger.{map_bit}
use Rattle.ledger.proofs.map.count_free.Given as goal

abbrev pub invariant-loop-j : goal.invariant-loop-j
invariant-loop-j l = l.sum ≡ sum_below (32 * l.j) (map_bit l.led)
