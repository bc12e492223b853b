-- Document 01: "A first-level page holds in words 0-255 zero or table page + 1, then zeros. A second-level slot holds zero or
-- frame·4096 + rights", and "The walk takes the table's level and falls one level at each step". Assumes nothing.
use Rattle.std.specs.Prelude.{ℕ, zero, suc, ◌+◌, ◌*◌, ◌/◌, ◌%◌, Bool, not, ◌&&◌, List, eqb, leb, Option, Some, None}
use Rattle.std.proofs.Math.Option as maybe
use Rattle.words.specs.Words.{pick}
use Rattle.mapping.specs.Mapping.{page_bytes, address_end, index_of, slot_of, rights_of, writes}
use Rattle.memory.specs.Memory.{frame, put_word}
use Rattle.walk.specs.declared.Slot.{Slot}

-- what a first-level word leads to: nothing, or the table in page p
abbrev pub below : ℕ → (ℕ → Option Slot) → Option Slot
below zero go = None
below (suc p) go = go p

-- the walk for address va from the table in page p, at its level (2 a first-level page, 1 a second-level table); s the first secure frame.
-- It ends in the leaf: the table that has the address's slot, and what the slot holds.
unfoldable pub walk : ℕ → List ℕ → ℕ → ℕ → ℕ → Option Slot
walk zero M s p va = None
walk (suc zero) M s p va = Some (record { table = p; word = frame M (s + p) (slot_of va) })
walk (suc (suc l)) M s p va = below (frame M (s + p) (index_of va)) (λ q. walk (suc l) M s q va)

-- a slot is allowed when it is not empty and, for a store, has the write right
abbrev pub allowed : Bool → Option Slot → Option ℕ
allowed write None = None
allowed write (Some x) = pick (eqb x.word 0) None (pick (write && not (writes x.word)) None (Some x.word))

-- "For 41 and 42: not a multiple of 4, at or above 2^30, unmapped, or a store without write": a no; otherwise the slot's word
unfoldable pub translate : List ℕ → ℕ → ℕ → ℕ → Bool → Option ℕ
translate M s first va write =
    pick (not (eqb (va % 4) 0)) None (pick (leb address_end va) None (allowed write (walk 2 M s first va)))

-- the same for whoever speaks of an access and not of the walk: none, or the slot's word
abbrev pub slot_in : Option ℕ → maybe.Option ℕ
slot_in None = maybe.none
slot_in (Some v) = maybe.some v

unfoldable pub slot_for : List ℕ → ℕ → ℕ → ℕ → Bool → maybe.Option ℕ
slot_for M s first va write = slot_in (translate M s first va write)

-- the frame that a slot names, and the word of it that an address names
abbrev pub frame_of : ℕ → ℕ
frame_of v = v / page_bytes

abbrev pub word_of : ℕ → ℕ
word_of va = va % page_bytes / 4

-- the slot of address va filled with v (0 empties it), where it has a table
abbrev pub filled_at : List ℕ → ℕ → ℕ → ℕ → Option Slot → List ℕ
filled_at M s va v None = M
filled_at M s va v (Some x) = put_word M (s + x.table) (slot_of va) v

unfoldable pub filled : List ℕ → ℕ → ℕ → ℕ → ℕ → List ℕ
filled M s first va v = filled_at M s va v (walk 2 M s first va)

-- the slot that names frame f with these rights
abbrev pub slot_word : ℕ → ℕ → ℕ
slot_word f rights = f * page_bytes + rights

-- the slot of mapping word map names secure page p, with the word's rights
unfoldable pub mapped : List ℕ → ℕ → ℕ → ℕ → ℕ → List ℕ
mapped M s first map p = filled M s first map (slot_word (s + p) (rights_of map))

-- first-level slot i of first-level page f names table p
unfoldable pub linked : List ℕ → ℕ → ℕ → ℕ → ℕ → List ℕ
linked M s f i p = put_word M (s + f) i (p + 1)
