-- Request #106, "Saved images": "Write ledger then secure frames as blocks of 512 bytes, each with its own check". Assumes nothing.
use Rattle.std.specs.Prelude.{ℕ, ◌+◌, ◌-◌, ◌*◌, ◌/◌, List, [], ◌∷◌, ◌++◌, take, drop, replicate}
use Rattle.words.specs.Words.{record_words}
use Rattle.words.specs.Bytes.{word_bytes, little_endian}
use Rattle.crc32.specs.Crc32.{crc32}
use Rattle.machine.specs.declared.Machine.{Machine}
use Rattle.machine.specs.Machine.{frame_words, header_words}

-- ---- the words of an image
-- "ledger then secure frames"
abbrev pub ledger_words : Machine → ℕ
ledger_words b = header_words + record_words * b.pages

abbrev pub secure_words : Machine → ℕ
secure_words b = frame_words * b.pages

abbrev pub image_words : Machine → ℕ
image_words b = ledger_words b + secure_words b

unfoldable pub image_of : Machine → List ℕ → List ℕ → List ℕ
image_of b M L = L ++ take (secure_words b) (drop (frame_words * b.secure) M)

-- ---- a block
-- "word 0 image number, 1 block index from 0, 2 block total, 3-126 payload .., 127 the CRC-32"
abbrev pub number_at : ℕ
number_at = 0

abbrev pub index_at : ℕ
index_at = 1

abbrev pub total_at : ℕ
total_at = 2

abbrev pub payload_at : ℕ
payload_at = 3

abbrev pub payload_words : ℕ
payload_words = 124

abbrev pub check_at : ℕ
check_at = 127

-- "blocks of 512 bytes", "over the first 508 bytes"
abbrev pub block_bytes : ℕ
block_bytes = 512

abbrev pub body_bytes : ℕ
body_bytes = word_bytes * check_at

-- the total: the least number of payloads that hold the image
unfoldable pub total : Machine → ℕ
total b = (image_words b + (payload_words - 1)) / payload_words

-- #109: "an image's word 2 becomes the block total + 65,536, so that old images are refused"
abbrev pub total_from : ℕ
total_from = 65536

unfoldable pub total_word : Machine → ℕ
total_word b = total b + total_from

-- the payload of block j, "zero-filled at the end"
unfoldable pub payload : List ℕ → ℕ → List ℕ
payload I j = take payload_words (drop (payload_words * j) I ++ replicate payload_words 0)

-- words 0 to 126 of block j of the image I, as "little-endian words"
unfoldable pub body : Machine → ℕ → ℕ → List ℕ → List ℕ
body b number j I = little_endian (number ∷ j ∷ total_word b ∷ payload I j)

-- bytes with their check behind them
unfoldable pub sealed : List ℕ → List ℕ
sealed bytes = bytes ++ little_endian (crc32 bytes ∷ [])

-- block j of the image of memory M and ledger L under a number
unfoldable pub block_of : Machine → List ℕ → List ℕ → ℕ → ℕ → List ℕ
block_of b M L number j = sealed (body b number j (image_of b M L))
