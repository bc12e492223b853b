-- The sum is that of the bits passed.
use mathlib.Core.Path.{◌≡◌}
use Rattle.ledger.specs.Ledger.{rec}
use Rattle.accept.proofs.FreeMap.{low_bits}
use Rattle.accept.proofs.header.map_word.Given as goal

abbrev pub invariant-loop-i : goal.invariant-loop-i
invariant-loop-i l = l.sum ≡ low_bits l.n (rec l.led) l.j l.i
