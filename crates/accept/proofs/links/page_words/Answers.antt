use Prim.Native.Nat.{◌+◌, ◌/◌}
use native.Mathlib.Omega.{arith}
use lib.ListN.{length}
use Rattle.machine.specs.Machine.{frame_words}
use Rattle.memory.specs.Memory.{words_of}
use Rattle.accept.proofs.Stretches.{chunk_at}
use Rattle.accept.proofs.links.page_words.Goals as goal

pub returns : goal.returns
unfolding words_of
returns c =
    let M = c.args.mem.now in
    rw (c.frame.ensures, c.as_chunks.ensures.front)
    (chunk_at frame_words (length M / frame_words) M (c.args.b.secure + c.args.p) (omega arith))
