use mathlib.Core.Path.{◌≡◌, ◌∙◌}
use native.Mathlib.Omega.{arith}
use Rattle.ledger.specs.Ledger.{rec}
use Rattle.accept.proofs.FreeMap.{low_none, low_all, low_more, low_room, map_past}
use Rattle.accept.proofs.header.map_word.Goals as goal

pub returns-then-n-j : goal.returns-then-n-j
returns-then-n-j c =
    let g = c.args in
    map_past g.n (rec g.led.now) g.j c.if-n-j.true

pub loop-i-init : goal.loop-i-init
loop-i-init c = low_none _ _ _

pub overflow_add-sum : goal.overflow_add-sum
overflow_add-sum c = record { fits = low_room _ _ _ (omega arith) c.free_bit.ensures c.loop-i.invariant }

pub loop-i-preserved : goal.loop-i-preserved
loop-i-preserved c = low_more _ _ _ (omega arith) c.free_bit.ensures c.loop-i.invariant

pub returns : goal.returns
returns c =
    let g = c.args in
    let i : c.loop-i.i ≡ 32 = omega arith in
    c.loop-i.invariant ∙ rw i (low_all g.n (rec g.led.now) g.j)
