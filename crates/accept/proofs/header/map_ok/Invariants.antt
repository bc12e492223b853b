-- Each word of the free map passed is right.
use Prim.Native.Nat.{ℕ, ◌+◌, ◌<◌}
use mathlib.Core.Path.{◌≡◌}
use Rattle.machine.specs.Machine.{map_start}
use Rattle.ledger.specs.Ledger.{header, rec}
use Rattle.accept.specs.Accept.{map_word}
use Rattle.accept.proofs.header.map_ok.Given as goal

abbrev pub invariant-loop-j : goal.invariant-loop-j
invariant-loop-j l = (x : ℕ) → x < l.j → header l.led (map_start + x) ≡ map_word l.n (rec l.led) x
