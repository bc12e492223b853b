use mathlib.Core.Path.{sym, ◌∙◌}
use native.Mathlib.Omega.{arith}
use lib.ListN.{length, take, drop}
use lib.Seq.{ext_get_or}
use Rattle.image.specs.Reader.{payload_of}
use Rattle.image.proofs.Taken.{length_piece, word_of_piece}
use Rattle.image.proofs.reader.take_run.Goals as goal

pub returns : goal.returns
returns c =
    let l = c.loop-k in
    let B = c.args.block.now in
    let i = c.args.i in
    let n = length c.args.out.now in
    ext_get_or 0 l.out (take n (drop i (payload_of B))) (l.auto.out ∙ sym (length_piece B i n c.requires))
    (λ k m. l.invariant k (omega (arith, l.auto.out)) ∙ word_of_piece B i n k (omega (arith, l.auto.out)) c.requires)
