use Rattle.std.proofs.Common.{◌∙◌, arith}
use Rattle.words.proofs.Paste.{part_pasted}
use Rattle.memory.specs.Memory.{wiped}
use Rattle.memory.proofs.Frames.{zeros_in}
use Rattle.memory.proofs.wipe.Goals as goal

pub returns : goal.returns
unfolding wiped
returns c = part_pasted _ _ _ _ _ _ (omega arith) (c.fill.ensures.after (λ y e. e) ∙ zeros_in c.args.mem.now c.args.g c.requires)
