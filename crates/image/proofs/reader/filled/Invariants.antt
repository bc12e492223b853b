-- The words of the fill below i are zero.
use Prim.Native.Nat.{ℕ, ◌+◌, ◌≤◌, ◌<◌}
use mathlib.Core.Path.{◌≡◌}
use Rattle.words.specs.Bytes.{word_at}
use Rattle.image.specs.Image.{payload_at}
use Rattle.image.proofs.reader.filled.Given as goal

abbrev pub invariant-loop-i : goal.invariant-loop-i
invariant-loop-i l = (k : ℕ) → k < l.i → l.initial.i ≤ k → word_at l.block (payload_at + k) ≡ 0
