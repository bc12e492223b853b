-- Document 01, "Ledger": a header, then 32 words a page. Reading outside the ledger gives 0 and writing outside it changes nothing, so
-- that every definition is total. Assumes nothing.
use Rattle.std.specs.Prelude.{ℕ, ◌+◌, ◌*◌, ◌/◌, ◌%◌, ◌^◌, List, [], ◌∷◌, slice_index, slice_set}
use Rattle.words.specs.Words.{word_bits, record_words, bit, bit_off, bit_on, padded}
use Rattle.machine.specs.Machine.{header_words, map_start}
use Rattle.ledger.specs.Names.{running_word, type_word, owner_word, first_page_word, state_word, count_word, blocks_word, hash_word, entry_word, suspended_word, mapping_word}

-- ---- readers
-- word k of the header
unfoldable pub header : List ℕ → ℕ → ℕ
header L k = slice_index L k

-- word k of page p's record
unfoldable pub rec : List ℕ → ℕ → ℕ → ℕ
rec L p k = slice_index L (header_words + record_words * p + k)

-- the words that have names, of page p, of an address space a, a thread t, a data page d
abbrev pub type_of : List ℕ → ℕ → ℕ
type_of L p = rec L p type_word

abbrev pub owner_of : List ℕ → ℕ → ℕ
owner_of L p = rec L p owner_word

abbrev pub first_of : List ℕ → ℕ → ℕ
first_of L a = rec L a first_page_word

abbrev pub state_of : List ℕ → ℕ → ℕ
state_of L a = rec L a state_word

abbrev pub count_of : List ℕ → ℕ → ℕ
count_of L a = rec L a count_word

abbrev pub blocks_of : List ℕ → ℕ → ℕ
blocks_of L a = rec L a blocks_word

abbrev pub entry_of : List ℕ → ℕ → ℕ
entry_of L t = rec L t entry_word

abbrev pub suspended_of : List ℕ → ℕ → ℕ
suspended_of L t = rec L t suspended_word

abbrev pub map_of : List ℕ → ℕ → ℕ
map_of L d = rec L d mapping_word

-- the key, and the hash or measurement of space a
abbrev pub key : List ℕ → List ℕ
key L = header L 1 ∷ header L 2 ∷ header L 3 ∷ header L 4 ∷ header L 5 ∷ header L 6 ∷ header L 7 ∷ header L 8 ∷ []

abbrev pub hash : List ℕ → ℕ → List ℕ
hash L a = rec L a 6 ∷ rec L a 7 ∷ rec L a 8 ∷ rec L a 9 ∷ rec L a 10 ∷ rec L a 11 ∷ rec L a 12 ∷ rec L a 13 ∷ []

-- "bit p mod 32 of word 9 + p div 32": page p's bit of the free map
unfoldable pub map_bit : List ℕ → ℕ → ℕ
map_bit L p = bit (header L (map_start + p / word_bits)) (p % word_bits)

-- ---- writers
-- the ledger with v at word k of the header, and at word k of page p's record
unfoldable pub put_header : List ℕ → ℕ → ℕ → List ℕ
put_header L k v = slice_set L k v

unfoldable pub put : List ℕ → ℕ → ℕ → ℕ → List ℕ
put L p k v = slice_set L (header_words + record_words * p + k) v

-- the words of vs at words k, k + 1, .. of page p's record
unfoldable pub puts : List ℕ → ℕ → ℕ → List ℕ → List ℕ
puts L p k [] = L
puts L p k (v ∷ vs) = puts (put L p k v) p (k + 1) vs

-- page p's record becomes the words of vs, then zeros ("Unnamed words are zero.")
unfoldable pub anew : List ℕ → ℕ → List ℕ → List ℕ
anew L p vs = puts L p 0 (padded vs)

-- page p's bit of the free map made 0, and made 1
unfoldable pub map_off : List ℕ → ℕ → List ℕ
map_off L p = slice_set L (map_start + p / word_bits) (bit_off (header L (map_start + p / word_bits)) (p % word_bits))

unfoldable pub map_on : List ℕ → ℕ → List ℕ
map_on L p = slice_set L (map_start + p / word_bits) (bit_on (header L (map_start + p / word_bits)) (p % word_bits))

-- ---- effects
-- a free page p becomes a page with this record; page p becomes free
unfoldable pub occupy : List ℕ → ℕ → List ℕ → List ℕ
occupy L p vs = map_off (anew L p vs) p

unfoldable pub vacate : List ℕ → ℕ → List ℕ
vacate L p = map_on (anew L p []) p

-- space a owns one page more; one page less
unfoldable pub gain : List ℕ → ℕ → List ℕ
gain L a = put L a count_word ((count_of L a + 1) % 2 ^ 32)

unfoldable pub lose : List ℕ → ℕ → List ℕ
lose L a = put L a count_word ((count_of L a + 4294967295) % 2 ^ 32)

-- the eight words of a hash
unfoldable pub eight : List ℕ → List ℕ
eight h =
    slice_index h 0 ∷ slice_index h 1 ∷ slice_index h 2 ∷ slice_index h 3 ∷ slice_index h 4 ∷ slice_index h 5 ∷ slice_index h 6 ∷ slice_index h 7 ∷ []

-- the hash of space a becomes h; and k blocks more are measured
unfoldable pub put_hash : List ℕ → ℕ → List ℕ → List ℕ
put_hash L a h = puts L a hash_word (eight h)

unfoldable pub measure : List ℕ → ℕ → ℕ → List ℕ → List ℕ
measure L a k h = put_hash (put L a blocks_word ((blocks_of L a + k) % 2 ^ 32)) a h

-- page + 1 runs, or nobody where the word is 0
unfoldable pub run : List ℕ → ℕ → List ℕ
run L w = put_header L running_word w
