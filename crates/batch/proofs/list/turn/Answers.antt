use mathlib.Core.Path.{refl}
use Rattle.batch.proofs.Turns.{part_turned}
use Rattle.batch.proofs.list.turn.Goals as goal

pub returns : goal.returns
returns c =
    part_turned _ _ _ _ _ _ _ _ refl refl c.record_at.ensures c.obey-answer.ensures c.write_answer.ensures
