use mathlib.Core.Path.{refl, ◌∙◌}
use native.Mathlib.Omega.{arith}
use lib.ListN.{length-set}
use Rattle.words.proofs.Paste.{paste_none, paste_turn, paste_all}
use Rattle.machine.specs.Machine.{frame_words}
use Rattle.memory.specs.Memory.{words_of, copied}
use Rattle.memory.proofs.Frames.{length_words_of, source}
use Rattle.memory.proofs.copy.Goals as goal

pub loop-i-init : goal.loop-i-init
loop-i-init c = (refl, paste_none _ _ (words_of c.args.mem.now c.args.f))

pub loop-i-preserved : goal.loop-i-preserved
loop-i-preserved c =
    let e = c.loop-i.invariant.1 in
    let long = length_words_of c.args.mem.now c.args.f c.requires.0 in (
      simp length-set (omega arith),
      paste_turn _ _ _ _ e (source _ _ _ c.requires.0 c.requires.1 _ e c.requires.2 (omega arith)) (omega arith) (omega (arith, long)),
    )

pub returns : goal.returns
unfolding copied
returns c =
    c.loop-i.invariant.1 ∙ paste_all _ _ frame_words _ _ (length_words_of _ c.args.f c.requires.0) (omega arith) (omega arith)
