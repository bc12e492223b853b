-- Document 01, "What acceptance demands", sentence by sentence, on box A: a state that breaks the sentence gets a no, and the same state with
-- that put right a yes; what a stopped space is free to hold gets a yes, and what binds it all the same a no. Assumes nothing.
use Rattle.std.specs.Prelude.{ℕ, ◌+◌, ◌-◌, ◌*◌, ◌^◌, ◌≡◌, List, [], ◌∷◌, ◌++◌, length, take, replicate}
use Rattle.words.specs.Words.{padded, paste, list_below}
use Rattle.machine.specs.declared.Machine.{Machine}
use Rattle.machine.specs.Machine.{frame_words, machine_of, map_start}
use Rattle.ledger.specs.Names.{blocks_word, building, count_word, data_page, entry_word, final, first_level, first_page_word, flags_word, index_word, key_words, mapping_word, owner_word, registers_word, running_word, second_level, space, spare, state_word, stopped, suspended_word, thread, type_word}
use Rattle.ledger.specs.Ledger.{lose, put, puts, put_header, vacate}
use Rattle.memory.specs.Memory.{put_word, wiped}
use Rattle.walk.specs.Walk.{slot_word}
use Rattle.accept.specs.Accept.{Accepted}
use Rattle.box_a.specs.Shift.{box_a}

-- what is lent: a memory and a ledger
pub record State : Type 0 where
  pub mem : List ℕ
  pub led : List ℕ

-- ---- yes and no, on machine b; and on box A
pub record YesOn (b : Machine) (x : State) : Type 0 where
  pub accepted : Accepted b x.mem x.led

pub record NoOn (b : Machine) (x : State) : Type 0 where
  pub refused : Accepted b x.mem x.led → ⊥

abbrev pub Yes : State → Type 0
Yes x = YesOn box_a x

abbrev pub No : State → Type 0
No x = NoOn box_a x

-- the same whether the space's state, s in `x s`, is building or final
pub record YesGoing (x : ℕ → State) : Type 0 where
  pub if_building : Yes (x building)
  pub if_final : Yes (x final)

pub record NoGoing (x : ℕ → State) : Type 0 where
  pub if_building : No (x building)
  pub if_final : No (x final)

-- ---- a state with one thing changed
-- word k of page p's record is now v; the words of vs from word k on
abbrev pub in_record : State → ℕ → ℕ → ℕ → State
in_record x p k v = record { mem = x.mem; led = put x.led p k v }

abbrev pub in_words : State → ℕ → ℕ → List ℕ → State
in_words x p k vs = record { mem = x.mem; led = puts x.led p k vs }

-- word k of the header is now v
abbrev pub in_header : State → ℕ → ℕ → State
in_header x k v = record { mem = x.mem; led = put_header x.led k v }

-- word k of frame f is now v; frame f holds the words of ws
abbrev pub in_frame : State → ℕ → ℕ → ℕ → State
in_frame x f k v = record { mem = put_word x.mem f k v; led = x.led }

abbrev pub holding : State → ℕ → List ℕ → State
holding x f ws = record { mem = paste x.mem (frame_words * f) frame_words ws; led = x.led }

-- page p is taken from space 0: its record and its memory are zero, its bit of the free map is 1, and the space owns one page less
abbrev pub without : State → ℕ → State
without x p = record { mem = wiped x.mem (6 + p); led = lose (vacate x.led p) 0 }

-- ---- records of 32 words and frames of 1,024: the words that are given, then zeros
unfoldable pub records : List (List ℕ) → List ℕ
records [] = []
records (r ∷ rs) = padded r ++ records rs

unfoldable pub frames : List (List ℕ) → List ℕ
frames [] = []
frames (f ∷ fs) = take frame_words (f ++ replicate frame_words 0) ++ frames fs

-- ---- what may be anything: the key, a space's hash, a thread's registers, the word in every frame that is not secure, and that in a data page
pub record Any : Type 0 where
  pub key : ℕ → ℕ
  pub hash : ℕ → ℕ
  pub registers : ℕ → ℕ
  pub outside : ℕ
  pub held : ℕ

module _ (any : Any) where
  -- ---- one space, in state s: page 0 the space, 1 its first-level page, 2 its table of index 0, 3 its data page at address 4096, readable and
  -- writable, 4 its thread with entry 4096, 5 its spare; 6 and 7 free. It owns 5 pages; blocks 66
  unfoldable pub ledger_of : ℕ → List ℕ
  ledger_of s =
      records
      ((0 ∷ list_below key_words any.key ++ (192 ∷ [])) ∷ [] ∷ (space ∷ 0 ∷ 1 ∷ s ∷ 5 ∷ 66 ∷ list_below 8 any.hash) ∷ (first_level ∷ 0 ∷ []) ∷
      (second_level ∷ 0 ∷ 0 ∷ []) ∷ (data_page ∷ 0 ∷ 4099 ∷ []) ∷ (thread ∷ 0 ∷ 4096 ∷ []) ∷ (spare ∷ 0 ∷ []) ∷ [] ∷ [] ∷ [])

  -- page p is frame 6 + p. Slot 0 of the first-level page (frame 7) names table 2. Of the table (frame 8), slot 1 names the data page (frame 9)
  -- and slot 2 frame 2, which is insecure, both readable and writable
  unfoldable pub memory : List ℕ
  memory =
      replicate (6 * frame_words) any.outside
      ++ (frames ([] ∷ (3 ∷ []) ∷ (0 ∷ slot_word 9 3 ∷ slot_word 2 3 ∷ []) ∷ replicate frame_words any.held ∷ [] ∷ [] ∷ [] ∷ [] ∷ [])
      ++ replicate (2 * frame_words) any.outside)

  abbrev pub alone : ℕ → State
  alone s = record { mem = memory; led = ledger_of s }

  abbrev pub building_a : State
  building_a = alone building

  abbrev pub final_a : State
  final_a = alone final

  abbrev pub stopped_a : State
  stopped_a = alone stopped

  -- final, and the thread runs; final, and the thread is suspended
  abbrev pub running_a : State
  running_a = in_header final_a running_word (4 + 1)

  abbrev pub suspended_a : State
  suspended_a = in_words final_a 4 suspended_word (1 ∷ list_below 16 any.registers)

  -- ---- two spaces, both in state s: page 0 the one, 1 its first-level page, 2 its table of index 0; 3 the other, 4 its first-level page, 5 its
  -- table of index 0, 6 its data page at address 4096 (frame 12); 7 free
  unfoldable pub ledger_of_two : ℕ → List ℕ
  ledger_of_two s =
      records
      ((0 ∷ list_below key_words any.key ++ (128 ∷ [])) ∷ [] ∷ (space ∷ 0 ∷ 1 ∷ s ∷ 2 ∷ 0 ∷ list_below 8 any.hash) ∷ (first_level ∷ 0 ∷ []) ∷
      (second_level ∷ 0 ∷ 0 ∷ []) ∷ (space ∷ 3 ∷ 4 ∷ s ∷ 3 ∷ 65 ∷ list_below 8 any.hash) ∷ (first_level ∷ 3 ∷ []) ∷ (second_level ∷ 3 ∷ 0 ∷ []) ∷
      (data_page ∷ 3 ∷ 4099 ∷ []) ∷ [] ∷ [])

  unfoldable pub memory_of_two : List ℕ
  memory_of_two =
      replicate (6 * frame_words) any.outside
      ++ (frames ([] ∷ (3 ∷ []) ∷ [] ∷ [] ∷ (6 ∷ []) ∷ (0 ∷ slot_word 12 3 ∷ []) ∷ replicate frame_words any.held ∷ [] ∷ [])
      ++ replicate (2 * frame_words) any.outside)

  abbrev pub neighbours : ℕ → State
  neighbours s = record { mem = memory_of_two; led = ledger_of_two s }

  -- ---- all pages free, all memory zero
  unfoldable pub empty_a : State
  empty_a =
      record {
        mem = replicate (16 * frame_words) 0;
        led = records ((0 ∷ list_below key_words any.key ++ (255 ∷ [])) ∷ [] ∷ [] ∷ [] ∷ [] ∷ [] ∷ [] ∷ [] ∷ [] ∷ [] ∷ []);
      }

  -- ---- what is lent; a machine by its numbers F, s, n, m, k
  pub record LentDemands : Type 0 where
    -- "Both ranges lie below F"
    pub secure_below : NoOn (machine_of 16 9 8 0 2) empty_a × YesOn (machine_of 16 8 8 0 2) empty_a
    pub monitor_below : NoOn (machine_of 16 6 8 15 2) empty_a × YesOn (machine_of 16 6 8 14 2) empty_a
    -- "and share no frame"
    pub apart : NoOn (machine_of 16 6 8 5 2) empty_a × NoOn (machine_of 16 6 8 13 2) empty_a × YesOn (machine_of 16 6 8 4 2) empty_a
    -- "k at least 1"
    pub monitors : NoOn (machine_of 16 6 8 0 0) empty_a × YesOn (machine_of 16 6 8 0 1) empty_a
    -- "Lent: the memory (1,024F words) and the ledger", #109: "ledger 64+32n words": a word short, a word long
    pub memory_short : No (record { mem = take (16 * frame_words - 1) memory; led = ledger_of building }) × Yes building_a
    pub memory_long : No (record { mem = memory ++ (0 ∷ []); led = ledger_of building }) × Yes building_a
    pub ledger_short : No (record { mem = memory; led = take (64 + 32 * 8 - 1) (ledger_of building) }) × Yes building_a
    pub ledger_long : No (record { mem = memory; led = ledger_of building ++ (0 ∷ []) }) × Yes building_a

  -- ---- "The layout above"
  pub record LayoutDemands : Type 0 where
    -- "bit p mod 32 of word 9 + p div 32 is 1 exactly when page p is free" (page 6 is free and has none; page 0 is not and has one)
    pub free_bit : No (in_header building_a map_start 128) × No (in_header building_a map_start 193) × Yes building_a
    -- "other bits 0" (the bits of pages 8 and 992)
    pub other_bits : No (in_header building_a map_start 448) × No (in_header building_a 40 1) × Yes building_a
    -- #109: "free map in words 9-40, zeros after"
    pub header_rest : No (in_header building_a 41 1) × No (in_header building_a 63 1) × Yes building_a
    -- the types are 0-6
    pub types : No (in_record building_a 5 type_word 7) × Yes building_a
    -- "0 free: owner 0", and "Unnamed words are zero."
    pub free_words : No (in_record building_a 6 owner_word 1) × No (in_record building_a 6 31 1) × Yes building_a
    -- "1 address space (owns itself)"
    pub owns_itself : No (in_record (neighbours building) 3 owner_word 0) × Yes (neighbours building)
    -- "3 state: 0 building, 1 final, 2 stopped"
    pub states : No (in_record final_a 0 state_word 3) × Yes final_a
    -- "6-13 hash or measurement", then unnamed words
    pub space_words : No (in_record building_a 0 14 1) × No (in_record building_a 0 31 1) × Yes building_a
    -- "2 thread: 2 entry point". #103: not one that "isn't a multiple of 4 or is at or above 2^30" (nor need it be mapped)
    pub entry_multiple :
        No (in_record building_a 4 entry_word 4097) × No (in_record building_a 4 entry_word 4098) × No (in_record building_a 4 entry_word 4099)
        × Yes (in_record building_a 4 entry_word 4100) × Yes (in_record building_a 4 entry_word 0)
    pub entry_low :
        No (in_record building_a 4 entry_word (2 ^ 30)) × No (in_record building_a 4 entry_word (2 ^ 32 - 4))
        × Yes (in_record building_a 4 entry_word (2 ^ 30 - 4))
    -- "3 suspended 0/1"
    pub suspended : No (in_record suspended_a 4 suspended_word 2) × Yes suspended_a
    -- "20 flags (low 28 bits 0)", then unnamed words
    pub flags :
        No (in_record suspended_a 4 flags_word 1) × No (in_record suspended_a 4 flags_word (2 ^ 27)) × Yes (in_record suspended_a 4 flags_word (2 ^ 28))
    pub thread_words : No (in_record suspended_a 4 21 1) × No (in_record suspended_a 4 31 1) × Yes suspended_a
    -- "3 first-level table: none"
    pub first_words : No (in_record building_a 1 2 1) × No (in_record building_a 1 31 1) × Yes building_a
    -- "4 second-level table: 2 its index, 0-255" (of a stopped space, since no first-level slot could name it), then unnamed words
    pub index : No (in_record stopped_a 2 index_word 256) × Yes (in_record stopped_a 2 index_word 255)
    pub table_words : No (in_record building_a 2 3 1) × No (in_record building_a 2 31 1) × Yes building_a
    -- "5 data: 2 its mapping word": "read (always 1) in bit 0", bits 3-11 zero, bits 30-31 zero (of a stopped space, since no slot could name it);
    -- then unnamed words
    pub reads : No (in_record stopped_a 3 mapping_word 4098) × Yes (in_record stopped_a 3 mapping_word 4097)
    pub low_bits : No (in_record stopped_a 3 mapping_word (4099 + 2 ^ 3)) × No (in_record stopped_a 3 mapping_word (4099 + 2 ^ 11)) × Yes stopped_a
    pub high_bits : No (in_record stopped_a 3 mapping_word (4099 + 2 ^ 30)) × Yes (in_record stopped_a 3 mapping_word (4099 + 2 ^ 29))
    pub data_words : No (in_record building_a 3 3 1) × No (in_record building_a 3 31 1) × Yes building_a
    -- "6 spare: none"
    pub spare_words : No (in_record building_a 5 2 1) × No (in_record building_a 5 31 1) × Yes building_a
    -- "A first-level page holds in words 0-255 zero or table page + 1" (here page 5, which is a spare, and page 8)
    pub first_level_slots : No (in_frame building_a 7 255 6) × No (in_frame building_a 7 255 9) × Yes building_a
    -- "then zeros."
    pub first_level_rest : No (in_frame building_a 7 256 1) × No (in_frame building_a 7 1023 1) × Yes building_a
    -- "A second-level slot holds zero or frame·4096 + rights (bits 0-2"
    pub slot_bits : No (in_frame building_a 8 2 (slot_word 2 3 + 2 ^ 3)) × No (in_frame building_a 8 2 (slot_word 2 3 + 2 ^ 11)) × Yes building_a
    -- ", read always 1)."
    pub slot_reads : No (in_frame building_a 8 2 (slot_word 2 2)) × Yes (in_frame building_a 8 2 (slot_word 2 1))
    -- "Insecure slots never execute."
    pub slot_executes : No (in_frame building_a 8 2 (slot_word 2 5)) × No (in_frame building_a 8 2 (slot_word 2 7)) × Yes building_a

  -- ---- owners, counts and blocks
  pub record CountDemands : Type 0 where
    -- "each page in use has an address space as owner" (the spare's is page 1, or page 8, and space 0 owns one page less)
    pub owners :
        No (in_record (in_record building_a 5 owner_word 1) 0 count_word 4) × No (in_record (in_record building_a 5 owner_word 8) 0 count_word 4)
        × Yes building_a
    -- "owned counts exact."
    pub counts : No (in_record building_a 0 count_word 4) × No (in_record building_a 0 count_word 6) × Yes building_a
    -- "Building: blocks = threads + 65 × data pages"
    pub blocks : No (in_record building_a 0 blocks_word 65) × No (in_record building_a 0 blocks_word 67) × Yes building_a
    -- "none suspended."
    pub none_suspended : No (in_record building_a 4 suspended_word 1) × Yes building_a
    -- "Otherwise blocks at most 65n." (and no more is asked: a second data page, at address 12288, was never measured)
    pub at_most_65n : No (in_record final_a 0 blocks_word 521) × Yes (in_record final_a 0 blocks_word 520)
    pub unmeasured : Yes (in_words (in_frame final_a 8 3 (slot_word 11 3)) 5 type_word (data_page ∷ 0 ∷ 12291 ∷ []))

  -- ---- "Not stopped": of a space that is building, and of one that is final
  pub record LinkDemands : Type 0 where
    -- "word 2 names the only first-level page owned" (it names the spare, or the neighbour's, or the page is gone; the spare is a second one)
    pub names_first :
        NoGoing (λ s. in_record (alone s) 0 first_page_word 5) × NoGoing (λ s. in_record (neighbours s) 0 first_page_word 4)
        × NoGoing (λ s. without (alone s) 1) × YesGoing alone
    pub only_first : NoGoing (λ s. in_record (alone s) 5 type_word first_level) × YesGoing alone
    -- "first-level slot i names table T exactly when T is owned and has index i." (No slot names table 2; the spare is a second table of index 0;
    -- slot 1 names table 2, of index 0; slot 0 names the neighbour's table)
    pub table_named : NoGoing (λ s. in_frame (alone s) 7 0 0) × YesGoing alone
    pub one_table : NoGoing (λ s. in_record (alone s) 5 type_word second_level) × YesGoing alone
    pub of_index : NoGoing (λ s. in_frame (alone s) 7 1 3) × YesGoing alone
    pub own_table : NoGoing (λ s. in_frame (neighbours s) 7 0 6) × YesGoing neighbours
    -- "Each non-empty slot names an insecure frame" (1 is the monitor's, 11 the spare's, 16 is past the last; 5, 14 and 15 are insecure)
    pub other_frame :
        NoGoing (λ s. in_frame (alone s) 8 2 (slot_word 1 3)) × NoGoing (λ s. in_frame (alone s) 8 2 (slot_word 11 3))
        × NoGoing (λ s. in_frame (alone s) 8 2 (slot_word 16 3)) × YesGoing alone
    pub insecure_frame :
        YesGoing (λ s. in_frame (alone s) 8 2 (slot_word 5 3)) × YesGoing (λ s. in_frame (alone s) 8 2 (slot_word 14 3))
        × YesGoing (λ s. in_frame (alone s) 8 2 (slot_word 15 3))
    -- "or a data page of the same owner" (slot 1 of the one's table names the other's data page, at its address and with its rights)
    pub same_owner : NoGoing (λ s. in_frame (neighbours s) 8 1 (slot_word 12 3)) × YesGoing neighbours
    -- "whose mapping word is that address" (slot 3 names the data page too)
    pub that_address : NoGoing (λ s. in_frame (alone s) 8 3 (slot_word 9 3)) × YesGoing alone
    -- "and those rights" (the slot says read alone, or execute too; a data page that may execute has a slot that says so)
    pub those_rights : NoGoing (λ s. in_frame (alone s) 8 1 (slot_word 9 1)) × NoGoing (λ s. in_frame (alone s) 8 1 (slot_word 9 7)) × YesGoing alone
    pub executes : YesGoing (λ s. in_record (in_frame (alone s) 8 1 (slot_word 9 7)) 3 mapping_word 4103)
    -- "each data page stands in its slot." (The slot is empty, or names an insecure frame)
    pub stands : NoGoing (λ s. in_frame (alone s) 8 1 0) × NoGoing (λ s. in_frame (alone s) 8 1 (slot_word 2 3)) × YesGoing alone

  -- ---- "Stopped"
  pub record StoppedDemands : Type 0 where
    -- "table pages may hold any words, layout included"
    pub any_first_level : (ws : List ℕ) → length ws ≡ frame_words → Yes (holding stopped_a 7 ws)
    pub any_table : (ws : List ℕ) → length ws ≡ frame_words → Yes (holding stopped_a 8 ws)
    -- "since tables go away in any order": there is no first-level page any more, no table, neither, nothing but the space
    pub no_first_level : Yes (without stopped_a 1)
    pub no_table : Yes (without stopped_a 2)
    pub no_tables : Yes (without (without stopped_a 1) 2) × Yes (without (without stopped_a 2) 1)
    pub nothing_else : Yes (without (without (without (without (without stopped_a 1) 2) 5) 4) 3)
    -- so word 2 may name any page below n, and there may be two first-level pages, two tables of one index, a data page that no slot names, a
    -- data page whose mapping word is another address
    pub names_none : Yes (in_record stopped_a 0 first_page_word 7)
    pub two_first_levels : Yes (in_record stopped_a 5 type_word first_level)
    pub two_tables : Yes (in_record stopped_a 5 type_word second_level)
    pub no_slot : Yes (in_frame stopped_a 8 1 0)
    pub elsewhere : Yes (in_record stopped_a 3 mapping_word (2 ^ 29 + 1))
    -- as in a final space threads may be suspended, and blocks are at most 65n
    pub suspended : Yes (in_words stopped_a 4 suspended_word (1 ∷ list_below 16 any.registers))
    pub at_most_65n : No (in_record stopped_a 0 blocks_word 521) × Yes (in_record stopped_a 0 blocks_word 520)
    -- "Word 2 is below n."
    pub word_2 : No (in_record stopped_a 0 first_page_word 8) × Yes stopped_a
    -- what else binds it: owned counts, an owner for each page, records (here one of each type), entries, zero registers, zero memory
    pub counts : No (in_record stopped_a 0 count_word 4) × No (in_record (without stopped_a 1) 0 count_word 5) × Yes stopped_a
    pub owners : No (in_record (in_record stopped_a 5 owner_word 1) 0 count_word 4) × Yes stopped_a
    pub words :
        No (in_record stopped_a 0 14 1) × No (in_record stopped_a 1 2 1) × No (in_record stopped_a 2 3 1) × No (in_record stopped_a 3 3 1)
        × No (in_record stopped_a 4 21 1) × No (in_record stopped_a 5 2 1) × Yes stopped_a
    pub entry : No (in_record stopped_a 4 entry_word 4097) × No (in_record stopped_a 4 entry_word (2 ^ 30)) × Yes stopped_a
    pub registers : No (in_record stopped_a 4 registers_word 1) × Yes stopped_a
    pub zero_memory :
        No (in_frame stopped_a 6 0 1) × No (in_frame stopped_a 10 0 1) × No (in_frame stopped_a 11 0 1) × No (in_frame stopped_a 12 0 1) × Yes stopped_a

  -- ---- threads, memory, and who runs
  pub record ThreadDemands : Type 0 where
    -- #103: "every thread" (of a final space, one that runs, one that is suspended)
    pub every_entry :
        No (in_record final_a 4 entry_word 4097) × No (in_record running_a 4 entry_word 4097) × No (in_record suspended_a 4 entry_word 4097) × Yes final_a
        × Yes running_a × Yes suspended_a
    -- "A thread not suspended has zero registers and flags." (r0, r15, flags; a suspended one may have any)
    pub registers : No (in_record final_a 4 registers_word 1) × No (in_record final_a 4 19 1) × Yes final_a × Yes suspended_a
    pub no_flags : No (in_record final_a 4 flags_word (2 ^ 28)) × Yes (in_record suspended_a 4 flags_word (2 ^ 28))
    -- "Free, address-space, thread and spare pages hold zero memory." (The first word, and the last; a data page may hold any)
    pub free_memory : No (in_frame building_a 12 0 1) × No (in_frame building_a 13 1023 1) × Yes building_a
    pub space_memory : No (in_frame building_a 6 0 1) × No (in_frame building_a 6 1023 1) × Yes building_a
    pub thread_memory : No (in_frame building_a 10 0 1) × No (in_frame building_a 10 1023 1) × Yes building_a
    pub spare_memory : No (in_frame building_a 11 0 1) × No (in_frame building_a 11 1023 1) × Yes building_a
    pub data_memory : (ws : List ℕ) → length ws ≡ frame_words → Yes (holding building_a 9 ws)
    -- "The running thread is a thread" (it is page 5, a spare, or page 8)
    pub runs_thread : No (in_header final_a running_word 6) × No (in_header final_a running_word 9) × Yes running_a
    -- "not suspended"
    pub runs_awake : No (in_header suspended_a running_word 5) × Yes running_a
    -- "of a final owner."
    pub runs_final : No (in_header building_a running_word 5) × No (in_header stopped_a running_word 5) × Yes running_a

  pub record Demands : Type 0 where
    pub lent : LentDemands
    pub layout : LayoutDemands
    pub counts : CountDemands
    pub links : LinkDemands
    pub when_stopped : StoppedDemands
    pub threads : ThreadDemands

abbrev pub AcceptanceDemands : Type 0
AcceptanceDemands = (any : Any) → Demands any
