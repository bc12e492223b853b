-- Request #106, the reader: which block is good, where its payload goes, and the words in which progress is kept. Assumes nothing.
use Rattle.std.specs.Prelude.{ℕ, ◌+◌, ◌*◌, ◌≤◌, ◌<◌, ◌≡◌, List, length, get_or, take, drop}
use Rattle.words.specs.Words.{paste, list_below}
use Rattle.words.specs.Bytes.{word_at}
use Rattle.crc32.specs.Crc32.{crc32}
use Rattle.machine.specs.declared.Machine.{Machine}
use Rattle.machine.specs.Machine.{frame_words}
use Rattle.image.specs.Image.{ledger_words, secure_words, image_words, number_at, index_at, total_at, payload_at, payload_words, check_at, block_bytes, body_bytes, total, total_word, image_of}

-- ---- a good block
-- B is good as block j, after the image number that progress holds: "come whole and in order, check and fill right, with one image number and the
-- right total"
pub record Good (b : Machine) (j number : ℕ) (B : List ℕ) : Type 0 where
  -- "come whole", "none more", "in order"
  pub whole : length B ≡ block_bytes
  pub due : j < total b
  pub index : word_at B index_at ≡ j
  -- "check and fill right"
  pub check : crc32 (take body_bytes B) ≡ word_at B check_at
  pub fill : (i : ℕ) → i < payload_words → image_words b ≤ payload_words * j + i → word_at B (payload_at + i) ≡ 0
  -- "one image number", whatever that of block 0 is, "and the right total"
  pub one_number : (j ≡ 0 → ⊥) → word_at B number_at ≡ number
  pub totals : word_at B total_at ≡ total_word b

-- ---- where its payload goes
unfoldable pub payload_of : List ℕ → List ℕ
payload_of B = list_below payload_words (λ i. word_at B (payload_at + i))

-- the image I with the payload of block j in its place; the fill, behind the image, is left out
unfoldable pub placed : Machine → List ℕ → ℕ → List ℕ → List ℕ
placed b I j vs = take (image_words b) (paste I (payload_words * j) payload_words vs)

-- the image of a memory and a ledger with block j in its place
abbrev pub with_block : Machine → List ℕ → List ℕ → ℕ → List ℕ → List ℕ
with_block b M L j B = placed b (image_of b M L) j (payload_of B)

-- the image's words as a ledger, and in the secure frames of a memory
unfoldable pub ledger_of : Machine → List ℕ → List ℕ
ledger_of b I = take (ledger_words b) I

unfoldable pub memory_of : Machine → List ℕ → List ℕ → List ℕ
memory_of b M I = paste M (frame_words * b.secure) (secure_words b) (drop (ledger_words b) I)

-- ---- what has come: the progress words
abbrev pub progress_words : ℕ
progress_words = 4

-- the answer so far; how many good blocks came, which names the bad one once the answer is so; the image's number. Word 3 is not used
abbrev pub answer_word : ℕ
answer_word = 0

abbrev pub came_word : ℕ
came_word = 1

abbrev pub number_word : ℕ
number_word = 2

abbrev pub answer_of : List ℕ → ℕ
answer_of P = get_or P answer_word 0

abbrev pub came_of : List ℕ → ℕ
came_of P = get_or P came_word 0

abbrev pub number_of : List ℕ → ℕ
number_of P = get_or P number_word 0
