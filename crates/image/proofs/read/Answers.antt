use mathlib.Core.Path.{refl, sym}
use native.Mathlib.Omega.{arith}
use Rattle.image.specs.Service.{BlockRead}
use Rattle.image.proofs.Inside.{total_fits}
use Rattle.image.proofs.read.Goals as goal

pub returns-then-not-good : goal.returns-then-not-good
returns-then-not-good c =
    let s = c.stop-then-not-good.ensures in
    rw (sym c.in-Some.ensures.cases.same) (BlockRead.bad c.if-not-read_fits.ensures c.if-answer-ne0.false c.if-not-good.ensures s.0 refl refl s.1)

pub overflow_add-progress : goal.overflow_add-progress
overflow_add-progress c = omega (arith, c.if-not-good.ensures.due, total_fits c.args.b c.if-not-read_fits.ensures.lent.fits)

pub returns : goal.returns
returns c =
    let t = c.take_payload.ensures in
    rw (sym c.in-Some.ensures.cases.same)
    (BlockRead.good c.if-not-read_fits.ensures c.if-answer-ne0.false c.if-not-good.ensures refl t.mem_after t.led_after (rw c.word_at.ensures refl))
