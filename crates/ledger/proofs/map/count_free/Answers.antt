use Rattle.std.proofs.Common.{refl, arith}
use lib.Count.{ones-le}
use Rattle.words.specs.Words.{sum_below}
use Rattle.ledger.proofs.Ones.{count_le}
use Rattle.ledger.proofs.map.count_free.Goals as goal

pub loop-j-init : goal.loop-j-init
unfolding sum_below
loop-j-init c = refl

pub overflow_add-sum : goal.overflow_add-sum
overflow_add-sum c =
    let w = c.header_word in
    omega (arith, count_le c.args.led.now c.loop-j.j, ones-le 32 w.result w.type_inv)
