-- The first words are those of the payload.
use Prim.Native.Nat.{ℕ, ◌+◌, ◌<◌}
use mathlib.Core.Path.{◌≡◌}
use lib.ListN.{get_or}
use Rattle.words.specs.Bytes.{word_at}
use Rattle.image.specs.Image.{payload_at}
use Rattle.image.proofs.reader.take_run.Given as goal

abbrev pub invariant-loop-k : goal.invariant-loop-k
invariant-loop-k l = (n : ℕ) → n < l.k → get_or l.out n 0 ≡ word_at l.block (payload_at + l.i + n)
