-- Document 01, "Ledger": who runs, the words of a record, the types of a page and the states of an address space, by name. (The free map's
-- place is machine's.) Assumes nothing.
use Rattle.std.specs.Prelude.{ℕ}

-- "Header: word 0 the running thread's page + 1, or 0; 1-8 the key"
abbrev pub running_word : ℕ
running_word = 0

-- "Then 32 words a page: word 0 type, word 1 owner"
abbrev pub type_word : ℕ
type_word = 0

abbrev pub owner_word : ℕ
owner_word = 1

-- of an address space: "2 first-level page; 3 state ..; 4 count of other pages owned; 5 blocks measured; 6-13 hash or measurement"
abbrev pub first_page_word : ℕ
first_page_word = 2

abbrev pub state_word : ℕ
state_word = 3

abbrev pub count_word : ℕ
count_word = 4

abbrev pub blocks_word : ℕ
blocks_word = 5

abbrev pub hash_word : ℕ
hash_word = 6

abbrev pub space_end : ℕ
space_end = 14

-- of a thread: "2 entry point; 3 suspended 0/1; 4-19 r0-r15; 20 flags"
abbrev pub entry_word : ℕ
entry_word = 2

abbrev pub suspended_word : ℕ
suspended_word = 3

abbrev pub registers_word : ℕ
registers_word = 4

abbrev pub flags_word : ℕ
flags_word = 20

abbrev pub thread_end : ℕ
thread_end = 21

-- of a second-level table: "2 its index, 0-255"; of a data page: "2 its mapping word"
abbrev pub index_word : ℕ
index_word = 2

abbrev pub mapping_word : ℕ
mapping_word = 2

-- the first of the words that are zero: of a table or a data page, and of a page of which only its type and its owner are named
abbrev pub named_end : ℕ
named_end = 3

abbrev pub owned_end : ℕ
owned_end = 2

-- the same of a free page, of which only the type is named
abbrev pub free_end : ℕ
free_end = 1

-- the words of the key
abbrev pub key_words : ℕ
key_words = 8

-- what a data page adds to the blocks measured: one for its mapping, 64 for its words
abbrev pub data_blocks : ℕ
data_blocks = 65

-- the types of a page, 0-6, and the states of an address space, 0-2
abbrev pub types : ℕ
types = 7

abbrev pub states : ℕ
states = 3

abbrev pub free : ℕ
free = 0

abbrev pub space : ℕ
space = 1

abbrev pub thread : ℕ
thread = 2

abbrev pub first_level : ℕ
first_level = 3

abbrev pub second_level : ℕ
second_level = 4

abbrev pub data_page : ℕ
data_page = 5

abbrev pub spare : ℕ
spare = 6

abbrev pub building : ℕ
building = 0

abbrev pub final : ℕ
final = 1

abbrev pub stopped : ℕ
stopped = 2
