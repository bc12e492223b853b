-- Document 01: the memory is F frames of 1,024 words. Reading outside it gives 0, and a word put outside it changes nothing. Whole frames are
-- pasted only inside it. Assumes nothing.
use Rattle.std.specs.Prelude.{ℕ, ◌+◌, ◌*◌, List, get_or, set, take, drop, replicate}
use Rattle.words.specs.Words.{paste}
use Rattle.machine.specs.Machine.{frame_words}

-- word k of frame f
unfoldable pub frame : List ℕ → ℕ → ℕ → ℕ
frame M f k = get_or M (frame_words * f + k) 0

-- the words of frame f
unfoldable pub words_of : List ℕ → ℕ → List ℕ
words_of M f = take frame_words (drop (frame_words * f) M)

-- the memory with v at word k of frame f
unfoldable pub put_word : List ℕ → ℕ → ℕ → ℕ → List ℕ
put_word M f k v = set M (frame_words * f + k) v

-- frame g holds the words of frame f; frame g is zero
unfoldable pub copied : List ℕ → ℕ → ℕ → List ℕ
copied M f g = paste M (frame_words * g) frame_words (words_of M f)

unfoldable pub wiped : List ℕ → ℕ → List ℕ
wiped M g = paste M (frame_words * g) frame_words (replicate frame_words 0)
