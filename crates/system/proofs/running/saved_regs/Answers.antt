use Rattle.std.proofs.Common.{arith, refl, add-one}
use Rattle.std.proofs.lemmas.List.{take_more_set}
use Rattle.words.specs.Words.{list_below}
use Rattle.system.proofs.running.saved_regs.Goals as goal

pub loop-i-init : goal.loop-i-init
unfolding list_below
loop-i-init c = refl

pub loop-i-preserved : goal.loop-i-preserved
unfolding list_below
loop-i-preserved c = rw (take_more_set c.loop-i.reg-items c.loop-i.i c.word.result (omega arith), c.loop-i.invariant, c.word.ensures, add-one)
