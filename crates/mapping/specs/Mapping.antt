-- Document 01: "A mapping word holds the page address in bits 12-29, read (always 1) in bit 0, write in bit 1, execute in bit 2, zeros
-- elsewhere; a mapping word answers for itself: index (bits 22-29), slot (12-21), rights, well-formedness." On numbers. Assumes nothing.
use Rattle.std.specs.Prelude.{Bool, ◌&&◌, ℕ, ◌*◌, ◌%◌, ◌^◌, eqb, ltb}
use Rattle.words.specs.Words.{bits}

-- the bytes of a page and of what one table maps; the tables that a first-level page can name; the end of the addresses
abbrev pub page_bytes : ℕ
page_bytes = 4096

abbrev pub table_bytes : ℕ
table_bytes = 4194304

abbrev pub most_tables : ℕ
most_tables = 256

abbrev pub address_end : ℕ
address_end = 2 ^ 30

-- the execute right; and what all rights lie below
abbrev pub execute_right : ℕ
execute_right = 4

abbrev pub rights_end : ℕ
rights_end = 8

abbrev pub index_of : ℕ → ℕ
index_of w = bits 22 8 w

abbrev pub slot_of : ℕ → ℕ
slot_of w = bits 12 10 w

abbrev pub rights_of : ℕ → ℕ
rights_of w = w % 2 ^ 3

-- the page address, in bytes: the rights cleared
abbrev pub address_of : ℕ → ℕ
address_of w = bits 12 18 w * 2 ^ 12

abbrev pub reads : ℕ → Bool
reads w = eqb (w % 2) 1

abbrev pub writes : ℕ → Bool
writes w = eqb (bits 1 1 w) 1

abbrev pub executes : ℕ → Bool
executes w = eqb (bits 2 1 w) 1

-- read is 1, and bits 3-11 and those above 29 are zero
unfoldable pub well_formed : ℕ → Bool
well_formed w = reads w && (eqb (bits 3 9 w) 0 && ltb w address_end)
