use native.Mathlib.Omega.{arith}
use Rattle.image.proofs.Inside.{runs_fit}
use Rattle.image.proofs.Laid.{zeros_laid}
use Rattle.image.proofs.Made.{block_made}
use Rattle.image.proofs.Payload.{payload_laid}
use Rattle.image.proofs.writer.write_block.Goals as goal

pub returns : goal.returns
returns c =
    let q = c.requires in
    let fit = runs_fit _ _ _ _ q.lent q.j_bound c.runs_of-run.ensures in
    let zeros = zeros_laid _ _ _ _ (omega (arith, fit.in_payload)) c.lay-3.array_long (c.fill.ensures.after (λ y e. e)) in
    block_made _ _ _ _ _ _ c.told-block c.total_word.ensures c.lay.ensures
    (payload_laid _ _ _ _ q.lent _ c.lay.array_long c.runs_of-run.ensures fit c.lay-2.ensures c.lay-3.ensures zeros) c.seal.ensures
