-- The first i words of frame f are pasted.
use mathlib.Core.Path.{◌≡◌}
use lib.ListN.{length, take}
use Rattle.words.specs.Words.{paste}
use Rattle.memory.specs.Memory.{words_of}
use Rattle.memory.proofs.copy.Given as goal

abbrev pub invariant-loop-i : goal.invariant-loop-i
invariant-loop-i l = (length l.mem ≡ length l.initial.mem) × (l.mem ≡ paste l.initial.mem l.to l.i (take l.i (words_of l.initial.mem l.f)))
