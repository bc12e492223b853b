-- The numbers that document 01 and the requests give, one by one, of the names that definitions, contracts and promises use. Assumes nothing.
use Rattle.std.specs.Prelude.{ℕ, ◌^◌, ◌≡◌, ◌∷◌, replicate}
use Rattle.words.specs.Words.{word_bits, record_words}
use Rattle.machine.specs.Machine.{most_frames, most_pages, frame_words, header_words, map_start, map_words}
use Rattle.mapping.specs.Mapping.{page_bytes, table_bytes, most_tables, address_end, execute_right, rights_end}
use Rattle.ledger.specs.Names.{running_word, type_word, owner_word, first_page_word, state_word, count_word, blocks_word, hash_word, space_end, entry_word, suspended_word, registers_word, flags_word, thread_end, index_word, mapping_word, named_end, owned_end, free_end, key_words, data_blocks, types, states, free, space, thread, first_level, second_level, data_page, spare, building, final, stopped}
use Rattle.answer.specs.Refusals.{no_such_page, not_free, not_space, wrong_state, owner_not_final, ill_formed, slot_taken, no_table, not_insecure, not_thread, is_suspended, not_suspended, not_stopped, still_owns, wrong_time, not_own_spare, not_own_data, ill_fitting, bad_record, no_such_index, already_free, bad_entry, bad_block, not_accepted, interrupted, faulted}
use Rattle.building.specs.Calls.{thread_block}
use Rattle.batch.specs.Service.{most_records}
use Rattle.image.specs.Image.{number_at, index_at, total_at, total_from, payload_at, payload_words, check_at, block_bytes, body_bytes}
use Rattle.image.specs.Reader.{progress_words, answer_word, came_word, number_word}

-- a name has this number (a record, so that the number is read off its type)
pub record Number (name number : ℕ) : Type 0 where
  pub is : name ≡ number

pub record NumbersAreTheDocuments : Type 0 where
  -- sizes: F, n, the records of a batch; the words of a frame, of the header, of a record; the free map; the key; bits
  pub sizes : Number most_frames 16384 × Number most_pages 1024 × Number most_records 512
  pub words : Number frame_words 1024 × Number header_words 64 × Number record_words 32 × Number map_start 9 × Number map_words 32 × Number key_words 8 × Number word_bits 32
  -- addresses: a page, a table, the tables, the end; rights
  pub addresses : Number page_bytes 4096 × Number table_bytes (2 ^ 22) × Number most_tables 256 × Number address_end (2 ^ 30)
  pub rights : Number execute_right 4 × Number rights_end 8
  -- the words of the header and of a record: of every page, of a space, of a thread, of a table and a data page; where zeros begin
  pub every : Number running_word 0 × Number type_word 0 × Number owner_word 1
  pub spaces : Number first_page_word 2 × Number state_word 3 × Number count_word 4 × Number blocks_word 5 × Number hash_word 6 × Number space_end 14
  pub threads : Number entry_word 2 × Number suspended_word 3 × Number registers_word 4 × Number flags_word 20 × Number thread_end 21
  pub pages : Number index_word 2 × Number mapping_word 2 × Number named_end 3 × Number owned_end 2 × Number free_end 1
  -- types and states
  pub types_of_pages : Number free 0 × Number space 1 × Number thread 2 × Number first_level 3 × Number second_level 4 × Number data_page 5 × Number spare 6 × Number types 7
  pub states_of_spaces : Number building 0 × Number final 1 × Number stopped 2 × Number states 3
  -- answers
  pub refusals_1 : Number no_such_page 1 × Number not_free 2 × Number not_space 3 × Number wrong_state 4 × Number owner_not_final 5 × Number ill_formed 6 × Number slot_taken 7
  pub refusals_8 : Number no_table 8 × Number not_insecure 9 × Number not_thread 10 × Number is_suspended 11 × Number not_suspended 12 × Number not_stopped 13
  pub refusals_14 : Number still_owns 14 × Number wrong_time 15 × Number not_own_spare 16 × Number not_own_data 17 × Number bad_record 19 × Number no_such_index 21 × Number already_free 22 × Number bad_entry 23
  pub others : Number ill_fitting 18 × Number interrupted 32 × Number faulted 33
  -- images: a block's bytes and those before the check, its words, the payload's; progress; 25 a bad block, 26 acceptance's no
  pub images : Number block_bytes 512 × Number body_bytes 508 × Number number_at 0 × Number index_at 1 × Number total_at 2 × Number total_from 65536 × Number payload_at 3 × Number payload_words 124 × Number check_at 127
  pub reading : Number progress_words 4 × Number answer_word 0 × Number came_word 1 × Number number_word 2 × Number bad_block 25 × Number not_accepted 26
  -- measuring: what a data page counts; "A thread adds the 16 words 1, entry, zeros."
  pub blocks : Number data_blocks 65
  pub thread_block_is : (entry : ℕ) → thread_block entry ≡ 1 ∷ entry ∷ replicate 14 0
