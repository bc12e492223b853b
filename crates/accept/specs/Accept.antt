-- Document 01, "What acceptance demands", over three views of what is lent:
--     h k       word k of the ledger's header
--     w p k     word k of page p's record
--     m f k     word k of frame f
-- Assumes nothing.
use Rattle.std.specs.Prelude.{ℕ, ◌+◌, ◌*◌, ◌%◌, ◌^◌, ◌≤◌, ◌<◌, ◌≡◌, Bool, true, ◌⊎◌, List, eqb, ltb}
use Rattle.words.specs.Words.{Says, sum_below, pick, record_words, word_bits}
use Rattle.machine.specs.declared.Machine.{Machine}
use Rattle.machine.specs.Machine.{frame_words, header_words, Insecure, Lent, map_words, map_start}
use Rattle.mapping.specs.Mapping.{index_of, slot_of, rights_of, well_formed, rights_end, execute_right, most_tables, page_bytes, table_bytes}
use Rattle.mapping.specs.Entry.{legal_entry}
use Rattle.ledger.specs.Names.{free_end, types, states, running_word, free, space, thread, first_level, second_level, data_page, spare, building, final, stopped, blocks_word, count_word, data_blocks, entry_word, first_page_word, flags_word, index_word, mapping_word, named_end, owned_end, owner_word, registers_word, space_end, state_word, suspended_word, thread_end, type_word}
use Rattle.ledger.specs.Ledger.{header, rec}
use Rattle.memory.specs.Memory.{frame}
use Rattle.walk.specs.Walk.{slot_word}

abbrev pub Words : Type 0
Words = ℕ → ℕ → ℕ

-- "Unnamed words are zero": those of r from lo up to, not with, hi
abbrev pub Zeros : (ℕ → ℕ) → ℕ → ℕ → Type 0
Zeros r lo hi = (k : ℕ) → lo ≤ k → k < hi → r k ≡ 0

-- ---- "The layout above": the record r of page p, by its type
-- 1 address space (owns itself): 2 first-level page; 3 state; 4 count of other pages owned; 5 blocks measured; 6-13 hash or measurement
pub record SpaceRec (n p : ℕ) (r : ℕ → ℕ) : Type 0 where
  pub itself : r owner_word ≡ p
  -- "Word 2 is below n."
  pub first : r first_page_word < n
  pub state : r state_word < states
  pub rest : Zeros r space_end record_words

-- 2 thread: 2 entry point; 3 suspended 0/1; 4-19 r0-r15; 20 flags (low 28 bits 0)
pub record ThreadRec (r : ℕ → ℕ) : Type 0 where
  -- #103: "Acceptance demands the same of every thread."
  pub entry : legal_entry (r entry_word) ≡ true
  pub suspended : r suspended_word < 2
  pub flags : r flags_word % 2 ^ 28 ≡ 0
  pub rest : Zeros r thread_end record_words

pub record Layout (n p : ℕ) (r : ℕ → ℕ) : Type 0 where
  pub known : r type_word < types
  pub is_free : r type_word ≡ free → Zeros r free_end record_words
  pub is_space : r type_word ≡ space → SpaceRec n p r
  pub is_thread : r type_word ≡ thread → ThreadRec r
  pub is_first : r type_word ≡ first_level → Zeros r owned_end record_words
  pub is_second : r type_word ≡ second_level → (r index_word < most_tables) × Zeros r named_end record_words
  pub is_data : r type_word ≡ data_page → (well_formed (r mapping_word) ≡ true) × Zeros r named_end record_words
  pub is_spare : r type_word ≡ spare → Zeros r owned_end record_words

-- page q is of type t and owned by a
pub record Is (b : Machine) (w : Words) (a t q : ℕ) : Type 0 where
  pub below : q < b.pages
  pub type : w q type_word ≡ t
  pub own : w q owner_word ≡ a

-- free, address-space, thread and spare: the types whose pages hold zero memory
abbrev pub Blank : ℕ → Type 0
Blank t = (t < first_level) ⊎ (t ≡ spare)

pub record PageOk (b : Machine) (w m : Words) (p : ℕ) : Type 0 where
  pub layout : Layout b.pages p (w p)
  -- "each page in use has an address space as owner"
  pub owner : (w p type_word ≡ free → ⊥) → (w p owner_word < b.pages) × (w (w p owner_word) type_word ≡ space)
  -- "A thread not suspended has zero registers and flags."
  pub idle : w p type_word ≡ thread → w p suspended_word ≡ 0 → Zeros (w p) registers_word thread_end
  -- "Free, address-space, thread and spare pages hold zero memory."
  pub blank : Blank (w p type_word) → Zeros (m (b.secure + p)) 0 frame_words

-- ---- sums over the pages of one owner
-- what a page of type t adds to the count of other pages owned, and to the blocks measured: a thread 1, a data page 65
abbrev pub counted : ℕ → ℕ
counted t = pick (ltb space t) 1 0

abbrev pub measured : ℕ → ℕ
measured t = pick (eqb t thread) 1 (pick (eqb t data_page) data_blocks 0)

-- what page p adds to the sum of g over the pages of a
unfoldable pub tally : (ℕ → ℕ) → Words → ℕ → ℕ → ℕ
tally g w a p = pick (eqb (w p owner_word) a) (g (w p type_word)) 0

-- ---- the tables of a space that is not stopped
-- the mapping word of page address (i, j) with rights r
abbrev pub mapping_of : ℕ → ℕ → ℕ → ℕ
mapping_of i j r = i * table_bytes + j * page_bytes + r

-- "Each non-empty slot names an insecure frame, or a data page of the same owner whose mapping word is that address and those rights":
-- what slot j of the table with index i of space a may hold. "Insecure slots never execute."
pub data SlotOk (b : Machine) (w : Words) (a i j : ℕ) : ℕ → Type 0 where
  empty : SlotOk b w a i j 0
  outside : (f r : ℕ) → Insecure b f → r < execute_right → r % 2 ≡ 1 → SlotOk b w a i j (slot_word f r)
  inside : (d r : ℕ) → Is b w a data_page d → w d mapping_word ≡ mapping_of i j r → r < rights_end → r % 2 ≡ 1 → SlotOk b w a i j (slot_word (b.secure + d) r)

-- data page d stands in its slot: a table of a has its index, and the slot names it with its rights
pub record Stands (b : Machine) (w m : Words) (a d : ℕ) : Type 0 where
  pub table : ℕ
  pub is_table : Is b w a second_level table
  pub index : w table index_word ≡ index_of (w d mapping_word)
  pub slot : m (b.secure + table) (slot_of (w d mapping_word)) ≡ slot_word (b.secure + d) (rights_of (w d mapping_word))

pub record Tables (b : Machine) (w m : Words) (a : ℕ) : Type 0 where
  -- "word 2 names the only first-level page owned"
  pub first : Is b w a first_level (w a first_page_word)
  pub only : (q : ℕ) → Is b w a first_level q → q ≡ w a first_page_word
  -- "first-level slot i names table T exactly when T is owned and has index i"; after slot 255 zeros
  pub names : (i T : ℕ) → i < most_tables → m (b.secure + w a first_page_word) i ≡ T + 1 → Is b w a second_level T × (w T index_word ≡ i)
  pub named : (T : ℕ) → Is b w a second_level T → m (b.secure + w a first_page_word) (w T index_word) ≡ T + 1
  pub rest : Zeros (m (b.secure + w a first_page_word)) most_tables frame_words
  pub slots : (T j : ℕ) → Is b w a second_level T → j < frame_words → SlotOk b w a (w T index_word) j (m (b.secure + T) j)
  -- "each data page stands in its slot"
  pub stands : (d : ℕ) → Is b w a data_page d → Stands b w m a d

-- ---- an address space
pub record SpaceOk (b : Machine) (w m : Words) (a : ℕ) : Type 0 where
  -- "owned counts exact"
  pub count : w a count_word ≡ sum_below b.pages (tally counted w a)
  -- "Building: blocks = threads + 65 × data pages, none suspended. Otherwise blocks at most 65n."
  pub blocks : w a state_word ≡ building → w a blocks_word ≡ sum_below b.pages (tally measured w a)
  pub calm : w a state_word ≡ building → (t : ℕ) → Is b w a thread t → w t suspended_word ≡ 0
  pub room : (w a state_word ≡ building → ⊥) → w a blocks_word ≤ data_blocks * b.pages
  -- "Not stopped: ..": "Stopped: table pages may hold any words, layout included"
  pub tables : (w a state_word ≡ stopped → ⊥) → Tables b w m a

-- ---- the header
-- 1 where page p is below n and free
unfoldable pub free_flag : ℕ → Words → ℕ → ℕ
free_flag n w p = pick (ltb p n) (pick (eqb (w p type_word) free) 1 0) 0

-- word j of the free map: bit i is 1 exactly when page 32 j + i is below n and free
unfoldable pub map_word : ℕ → Words → ℕ → ℕ
map_word n w j = sum_below word_bits (λ i. free_flag n w (word_bits * j + i) * 2 ^ i)

-- "The running thread is a thread, not suspended, of a final owner."
pub record Runs (b : Machine) (w : Words) (t : ℕ) : Type 0 where
  pub below : t < b.pages
  pub is_thread : w t type_word ≡ thread
  pub awake : w t suspended_word ≡ 0
  pub of_final : w (w t owner_word) state_word ≡ final

pub record HeaderOk (b : Machine) (h : ℕ → ℕ) (w : Words) : Type 0 where
  pub runs : (t : ℕ) → h running_word ≡ t + 1 → Runs b w t
  pub free_map : (j : ℕ) → j < map_words → h (map_start + j) ≡ map_word b.pages w j
  pub rest : Zeros h (map_start + map_words) header_words

-- ---- the rules, of the views; and of the lists that are lent
pub record Rules (b : Machine) (h : ℕ → ℕ) (w m : Words) : Type 0 where
  pub header : HeaderOk b h w
  pub pages : (p : ℕ) → p < b.pages → PageOk b w m p
  pub spaces : (a : ℕ) → a < b.pages → w a type_word ≡ space → SpaceOk b w m a

pub record Accepted (b : Machine) (M L : List ℕ) : Type 0 where
  pub lent : Lent b M L
  pub rules : Rules b (header L) (rec L) (frame M)

-- ---- the service: "Acceptance" says yes or no, and writes nothing
abbrev pub Accepts : Machine → List ℕ → List ℕ → Bool → Type 0
Accepts b M L r = Says r (Accepted b M L)
