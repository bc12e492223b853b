use Rattle.std.proofs.Common.{sym, ◌∙◌, arith, add-zero}
use Rattle.ledger.proofs.Puts.{puts_step, puts_end}
use Rattle.ledger.proofs.records.store_each.Goals as goal

pub loop-i-init : goal.loop-i-init
loop-i-init c = rw add-zero

pub loop-i-preserved : goal.loop-i-preserved
loop-i-preserved c = rw c.store.ensures (puts_step _ _ _ _ _ (omega arith) ∙ c.loop-i.invariant)

pub returns : goal.returns
returns c = sym (puts_end _ _ _ c.loop-i.i c.args.vs.now (omega arith)) ∙ c.loop-i.invariant
