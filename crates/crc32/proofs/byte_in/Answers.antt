-- `byte_in` meets its contract: the law of the first table.
use native.Mathlib.Omega.{arith}
use Rattle.crc32.proofs.Laws.{byte_by}
use Rattle.crc32.proofs.byte_in.Goals as goal

pub returns : goal.returns
returns c = rw c.from.ensures (byte_by c.args.t.now c.requires c.args.c c.args.x (omega arith))
