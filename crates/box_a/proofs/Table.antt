-- The table of box A, by computation.
use Prim.Native.Nat.{ℕ}
use mathlib.Core.Path.{refl}
use mathlib.Core.List.{[], ◌∷◌}
use Rattle.words.specs.Words.{bit, padded, bit_off, bit_on, sum_below, least_below, paste, or, list_below, all_zero}
use Rattle.machine.specs.Machine.{insecure}
use Rattle.mapping.specs.Mapping.{well_formed}
use Rattle.mapping.specs.Entry.{legal_entry}
use Rattle.sha256.specs.Sha256.{H0}
use Rattle.ledger.specs.Ledger.{header, rec, map_bit, put_header, put, puts, anew, map_off, map_on, occupy, vacate, gain, lose, eight, put_hash, measure, run}
use Rattle.memory.specs.Memory.{frame, words_of, put_word, copied, wiped}
use Rattle.walk.specs.Walk.{walk, translate, filled, mapped, linked}
use Rattle.answer.specs.Answer.{addr_code, index_code, unless, as_code, pg_code, building_code}
use Rattle.accept.specs.Accept.{free_flag, map_word}
use Rattle.building.specs.Calls.{init_addr_space_code, new_space, init_addr_space, init_thread_code, new_thread, init_thread, init_table_code, new_table, init_table, map_secure_code, new_data, map_secure, finalised, finalise}
use Rattle.system.specs.Calls.{get_phys_pages, thread_code, enter_code, enter_thread, resume_code, resume, stop, remove_space_code, remove_other_code, remove_code, left, remove, free_count, lowest_free, free_pages}
use Rattle.enclave.specs.Calls.{exit, interrupt, fault, load, store}
use Rattle.records.specs.Records.{turn_code, form_code}
use Rattle.calls.specs.Table.{calls, lookup}
use Rattle.batch.specs.Batch.{obey, after, batch}
use Rattle.boot.specs.Boot.{fresh_map, fresh_ledger, fresh_memory}
use Rattle.box_a.specs.Shift.{row1, row2, row3, row4, row5, row6, row7, row8, shift, asked, answered, played, Shift}

pub table : (k0 k1 k2 k3 k4 k5 k6 k7 v : ℕ) → Shift (k0 ∷ k1 ∷ k2 ∷ k3 ∷ k4 ∷ k5 ∷ k6 ∷ k7 ∷ []) v
unfolding insecure well_formed legal_entry header rec bit map_bit put_header put puts padded anew bit_off bit_on map_off map_on occupy vacate gain lose eight put_hash measure run sum_below least_below frame words_of put_word paste copied wiped walk translate filled mapped linked addr_code index_code or unless as_code pg_code building_code free_flag map_word get_phys_pages init_addr_space_code new_space init_addr_space init_thread_code new_thread init_thread init_table_code new_table init_table map_secure_code new_data map_secure finalised finalise thread_code enter_code enter_thread resume_code resume stop remove_space_code remove_other_code remove_code left remove free_count lowest_free free_pages exit interrupt fault load store H0 list_below fresh_map fresh_ledger fresh_memory calls lookup all_zero turn_code form_code obey after batch row1 row2 row3 row4 row5 row6 row7 row8 shift asked answered played
table k0 k1 k2 k3 k4 k5 k6 k7 v = record { answers = refl; slot = refl; blocks = refl; owned = refl; free_word = refl }
