-- Words as bytes, the low byte first. Assumes nothing.
use Rattle.std.specs.Prelude.{ℕ, ◌+◌, ◌*◌, ◌%◌, ◌^◌, ◌<◌, List, [], ◌∷◌, ◌++◌, get_or}
use Rattle.words.specs.Words.{bits, word_bits}

-- the bits of a byte, and the bytes of a word
abbrev pub byte_bits : ℕ
byte_bits = 8

abbrev pub word_bytes : ℕ
word_bytes = 4

-- "Word: unsigned, 32 bits": a list of words, and one of bytes
abbrev pub AreWords : List ℕ → Type 0
AreWords ws = (k : ℕ) → get_or ws k 0 < 2 ^ word_bits

abbrev pub AreBytes : List ℕ → Type 0
AreBytes bs = (k : ℕ) → get_or bs k 0 < 2 ^ byte_bits

-- "little-endian": the four bytes of a word, the low one first; and those of a list of words
unfoldable pub bytes_of : ℕ → List ℕ
bytes_of w = w % 2 ^ byte_bits ∷ bits 8 byte_bits w ∷ bits 16 byte_bits w ∷ bits 24 byte_bits w ∷ []

unfoldable pub little_endian : List ℕ → List ℕ
little_endian [] = []
little_endian (w ∷ ws) = bytes_of w ++ little_endian ws

-- word k of a list of bytes
unfoldable pub word_at : List ℕ → ℕ → ℕ
word_at bs k =
    get_or bs (word_bytes * k) 0 + 2 ^ 8 * get_or bs (word_bytes * k + 1) 0 + 2 ^ 16 * get_or bs (word_bytes * k + 2) 0
    + 2 ^ 24 * get_or bs (word_bytes * k + 3) 0
