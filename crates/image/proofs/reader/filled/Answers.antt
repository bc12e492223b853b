use mathlib.Core.Path.{◌∙◌}
use native.Mathlib.Omega.{arith}
use Rattle.image.proofs.Inside.{fits_payload, past_runs, past_image}
use Rattle.image.proofs.reader.filled.Goals as goal

pub overflow_step-i : goal.overflow_step-i
overflow_step-i c = omega (arith, fits_payload _ _ c.runs_of-run.ensures)

pub returns-then-word_at-ne0 : goal.returns-then-word_at-ne0
returns-then-word_at-ne0 c x =
    c.if-word_at-ne0.true (c.word_at.ensures ∙ x c.loop-i.i (omega arith) (past_runs _ _ c.runs_of-run.ensures (omega arith) c.loop-i.auto.i))

pub returns : goal.returns
returns c i l m = c.loop-i.invariant i (omega arith) (past_image _ _ c.runs_of-run.ensures m)
