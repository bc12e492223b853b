-- Each state of the demands on acceptance, by computation. Assumes nothing.
use Prim.Native.Nat.{ℕ, ◌+◌, ◌-◌, ◌*◌, ◌^◌, ◌<◌}
use mathlib.Core.Path.{◌≡◌, refl, subst}
use mathlib.Core.Bool.{Bool, true, false, ◌&&◌}
use mathlib.Core.List.{List, [], ◌∷◌}
use native.Mathlib.Omega.{arith}
use lib.Dec.{leb, ltb}
use lib.ListN.{length, get_or, set, replicate}
use borrow.Author.Tests.{leb-true, ltb-true}
use Rattle.words.specs.Words.{sum_below, padded, paste, list_below, bit, bit_on}
use Rattle.words.proofs.Zero.{both}
use Rattle.words.proofs.Says.{yes_holds, no_fails}
use Rattle.machine.specs.declared.Machine.{Machine}
use Rattle.machine.specs.Machine.{frame_words, insecure}
use Rattle.mapping.specs.Mapping.{well_formed}
use Rattle.mapping.specs.Entry.{legal_entry}
use Rattle.ledger.specs.Names.{building, final}
use Rattle.ledger.specs.Ledger.{header, rec, put, puts, put_header, anew, vacate, lose, map_on}
use Rattle.memory.specs.Memory.{put_word, wiped}
use Rattle.walk.specs.Walk.{slot_word}
use Rattle.accept.specs.Accept.{tally, free_flag, map_word}
use Rattle.box_a.specs.Shift.{box_a}
use Rattle.promises.specs.Demands.{State, YesOn, NoOn, Yes, YesGoing, NoGoing, records, frames, Any, ledger_of, memory, alone, stopped_a, running_a, suspended_a, ledger_of_two, memory_of_two, neighbours, empty_a, LentDemands, LayoutDemands, CountDemands, LinkDemands, StoppedDemands, ThreadDemands, AcceptanceDemands}
use Rattle.promises.proofs.Decided.{by_pages, keeps, decides}
use Rattle.promises.proofs.Decided.Tests.{Mark, marks}
use Rattle.promises.proofs.Decided.Parts.{page}
use Rattle.promises.proofs.Decided.Changed.{put_mark, Known, known_put, known_paste, known_wiped}

-- a memory of box A of which the pages are known, after a word, a frame, or a page has changed
abbrev KnownA : List ℕ → List (List Mark) → Type 0
KnownA M ps = Known box_a M ps

abbrev secure : ℕ → Bool
secure f = leb 6 f && ltb f 14

secure_page : (f : ℕ) → secure f ≡ true → (6 + (f - 6) ≡ f) × (f - 6 < 8)
secure_page f e =
    let x = both (leb 6 f) (ltb f 14) e in
    let lo = leb-true 6 f x.0 in
    let hi = ltb-true f 14 x.1 in
    (omega arith, omega arith)

module _ {M : List ℕ} {ps : List (List Mark)} (known : KnownA M ps) where
  stored : (f k v : ℕ) → (secure f && ltb k frame_words) ≡ true → KnownA (put_word M f k v) (set ps (f - 6) (put_mark (get_or ps (f - 6) []) k v))
  stored f k v e =
      let x = both (secure f) (ltb k frame_words) e in
      let q = secure_page f x.0 in
      subst (λ (g : ℕ). KnownA (put_word M g k v) (set ps (f - 6) (put_mark (get_or ps (f - 6) []) k v))) q.0
      (known_put (omega arith) known (f - 6) q.1 k v (ltb-true k frame_words x.1))

  filled : (f : ℕ) (ws : List ℕ) → length ws ≡ frame_words → secure f ≡ true
      → KnownA (paste M (frame_words * f) frame_words ws) (set ps (f - 6) (marks 0 ws))
  filled f ws n e =
      let q = secure_page f e in
      subst (λ (g : ℕ). KnownA (paste M (frame_words * g) frame_words ws) (set ps (f - 6) (marks 0 ws))) q.0
      (known_paste (omega arith) known (f - 6) q.1 ws n)

  gone : (p : ℕ) → ltb p 8 ≡ true → KnownA (wiped M (6 + p)) (set ps p [])
  gone p l = known_wiped (omega arith) known p (ltb-true p 8 l)

abbrev at : ℕ → ℕ → Mark
at k v = record { place = k; word = v }

-- ---- yes and no, by the test
tested_yes : {b : Machine} {x : State} → keeps b x.mem x.led ≡ true → YesOn b x
tested_yes {b} {x} e = record { accepted = yes_holds (keeps b x.mem x.led) (decides b x.mem x.led) e }

tested_no : {b : Machine} {x : State} → keeps b x.mem x.led ≡ false → NoOn b x
tested_no {b} {x} e = record { refused = no_fails (keeps b x.mem x.led) (decides b x.mem x.led) e }

-- by the pages that are known
module _ {M L : List ℕ} {ps : List (List Mark)} (known : KnownA M ps) where
  yes_by : (by_pages box_a M L ps known).test ≡ true → YesOn box_a (record { mem = M; led = L })
  yes_by e = record { accepted = yes_holds (by_pages box_a M L ps known).test (by_pages box_a M L ps known).says e }

  no_by : (by_pages box_a M L ps known).test ≡ false → NoOn box_a (record { mem = M; led = L })
  no_by e = record { refused = no_fails (by_pages box_a M L ps known).test (by_pages box_a M L ps known).says e }

-- whether the space is building or final
module _ {M : List ℕ} {L : ℕ → List ℕ} {ps : List (List Mark)} (known : KnownA M ps) where
  yes_going : (by_pages box_a M (L building) ps known).test ≡ true → (by_pages box_a M (L final) ps known).test ≡ true
      → YesGoing (λ s. record { mem = M; led = L s })
  yes_going x y = record { if_building = yes_by known x; if_final = yes_by known y }

  no_going : (by_pages box_a M (L building) ps known).test ≡ false → (by_pages box_a M (L final) ps known).test ≡ false
      → NoGoing (λ s. record { mem = M; led = L s })
  no_going x y = record { if_building = no_by known x; if_final = no_by known y }

module _ (any : Any) where
  -- the pages of the two memories
  held_marks : List Mark
  held_marks = marks 0 (replicate frame_words any.held)

  abbrev one_pages : List (List Mark)
  one_pages = [] ∷ (at 0 3 ∷ []) ∷ (at 1 (slot_word 9 3) ∷ at 2 (slot_word 2 3) ∷ []) ∷ held_marks ∷ [] ∷ [] ∷ [] ∷ [] ∷ []

  abbrev two_pages : List (List Mark)
  two_pages = [] ∷ (at 0 3 ∷ []) ∷ [] ∷ [] ∷ (at 0 6 ∷ []) ∷ (at 1 (slot_word 12 3) ∷ []) ∷ held_marks ∷ [] ∷ []

  one : KnownA (memory any) one_pages
  unfolding memory frames held_marks
  one = record { size = refl; pages = refl }

  two : KnownA (memory_of_two any) two_pages
  unfolding memory_of_two frames held_marks
  two = record { size = refl; pages = refl }

  -- the states that break nothing
  record Good : Type 0 where
    in_alone : YesGoing (alone any)
    in_stopped : Yes (stopped_a any)
    in_suspended : Yes (suspended_a any)
    in_running : Yes (running_a any)
    in_neighbours : YesGoing (neighbours any)

  good : Good
  unfolding sum_below padded list_below bit bit_on insecure well_formed legal_entry header rec put puts put_header anew vacate lose map_on tally free_flag map_word page records ledger_of ledger_of_two
  good =
      record {
        in_alone = yes_going one refl refl;
        in_stopped = yes_by one refl;
        in_suspended = yes_by one refl;
        in_running = yes_by one refl;
        in_neighbours = yes_going two refl refl;
      }

  lent_demands : LentDemands any
  unfolding keeps memory frames sum_below padded list_below bit bit_on insecure well_formed legal_entry header rec put puts put_header anew vacate lose map_on tally free_flag map_word page records ledger_of empty_a
  lent_demands =
      record {
        secure_below = (tested_no refl, tested_yes refl);
        monitor_below = (tested_no refl, tested_yes refl);
        apart = (tested_no refl, tested_no refl, tested_yes refl);
        monitors = (tested_no refl, tested_yes refl);
        memory_short = (tested_no refl, good.in_alone.if_building);
        memory_long = (tested_no refl, good.in_alone.if_building);
        ledger_short = (no_by one refl, good.in_alone.if_building);
        ledger_long = (no_by one refl, good.in_alone.if_building);
      }

  layout_demands : LayoutDemands any
  unfolding sum_below padded list_below bit bit_on insecure well_formed legal_entry header rec put puts put_header anew vacate lose map_on tally free_flag map_word page records ledger_of ledger_of_two
  layout_demands =
      record {
        free_bit = (no_by one refl, no_by one refl, good.in_alone.if_building);
        other_bits = (no_by one refl, no_by one refl, good.in_alone.if_building);
        header_rest = (no_by one refl, no_by one refl, good.in_alone.if_building);
        types = (no_by one refl, good.in_alone.if_building);
        free_words = (no_by one refl, no_by one refl, good.in_alone.if_building);
        owns_itself = (no_by two refl, good.in_neighbours.if_building);
        states = (no_by one refl, good.in_alone.if_final);
        space_words = (no_by one refl, no_by one refl, good.in_alone.if_building);
        entry_multiple = (no_by one refl, no_by one refl, no_by one refl, yes_by one refl, yes_by one refl);
        entry_low = (no_by one refl, no_by one refl, yes_by one refl);
        suspended = (no_by one refl, good.in_suspended);
        flags = (no_by one refl, no_by one refl, yes_by one refl);
        thread_words = (no_by one refl, no_by one refl, good.in_suspended);
        first_words = (no_by one refl, no_by one refl, good.in_alone.if_building);
        index = (no_by one refl, yes_by one refl);
        table_words = (no_by one refl, no_by one refl, good.in_alone.if_building);
        reads = (no_by one refl, yes_by one refl);
        low_bits = (no_by one refl, no_by one refl, good.in_stopped);
        high_bits = (no_by one refl, yes_by one refl);
        data_words = (no_by one refl, no_by one refl, good.in_alone.if_building);
        spare_words = (no_by one refl, no_by one refl, good.in_alone.if_building);
        first_level_slots = (no_by (stored one 7 255 6 refl) refl, no_by (stored one 7 255 9 refl) refl, good.in_alone.if_building);
        first_level_rest = (no_by (stored one 7 256 1 refl) refl, no_by (stored one 7 1023 1 refl) refl, good.in_alone.if_building);
        slot_bits = (
          no_by (stored one 8 2 (slot_word 2 3 + 2 ^ 3) refl) refl,
          no_by (stored one 8 2 (slot_word 2 3 + 2 ^ 11) refl) refl,
          good.in_alone.if_building,
        );
        slot_reads = (no_by (stored one 8 2 (slot_word 2 2) refl) refl, yes_by (stored one 8 2 (slot_word 2 1) refl) refl);
        slot_executes =
            (no_by (stored one 8 2 (slot_word 2 5) refl) refl, no_by (stored one 8 2 (slot_word 2 7) refl) refl, good.in_alone.if_building);
      }

  count_demands : CountDemands any
  unfolding sum_below padded list_below bit bit_on insecure well_formed legal_entry header rec put puts put_header anew vacate lose map_on tally free_flag map_word page records ledger_of
  count_demands =
      record {
        owners = (no_by one refl, no_by one refl, good.in_alone.if_building);
        counts = (no_by one refl, no_by one refl, good.in_alone.if_building);
        blocks = (no_by one refl, no_by one refl, good.in_alone.if_building);
        none_suspended = (no_by one refl, good.in_alone.if_building);
        at_most_65n = (no_by one refl, yes_by one refl);
        unmeasured = yes_by (stored one 8 3 (slot_word 11 3) refl) refl;
      }

  link_demands : LinkDemands any
  unfolding sum_below padded list_below bit bit_on insecure well_formed legal_entry header rec put puts put_header anew vacate lose map_on tally free_flag map_word page records ledger_of ledger_of_two
  link_demands =
      record {
        names_first = (no_going one refl refl, no_going two refl refl, no_going (gone one 1 refl) refl refl, good.in_alone);
        only_first = (no_going one refl refl, good.in_alone);
        table_named = (no_going (stored one 7 0 0 refl) refl refl, good.in_alone);
        one_table = (no_going one refl refl, good.in_alone);
        of_index = (no_going (stored one 7 1 3 refl) refl refl, good.in_alone);
        own_table = (no_going (stored two 7 0 6 refl) refl refl, good.in_neighbours);
        other_frame = (
          no_going (stored one 8 2 (slot_word 1 3) refl) refl refl,
          no_going (stored one 8 2 (slot_word 11 3) refl) refl refl,
          no_going (stored one 8 2 (slot_word 16 3) refl) refl refl,
          good.in_alone,
        );
        insecure_frame = (
          yes_going (stored one 8 2 (slot_word 5 3) refl) refl refl,
          yes_going (stored one 8 2 (slot_word 14 3) refl) refl refl,
          yes_going (stored one 8 2 (slot_word 15 3) refl) refl refl,
        );
        same_owner = (no_going (stored two 8 1 (slot_word 12 3) refl) refl refl, good.in_neighbours);
        that_address = (no_going (stored one 8 3 (slot_word 9 3) refl) refl refl, good.in_alone);
        those_rights =
            (no_going (stored one 8 1 (slot_word 9 1) refl) refl refl, no_going (stored one 8 1 (slot_word 9 7) refl) refl refl, good.in_alone);
        executes = yes_going (stored one 8 1 (slot_word 9 7) refl) refl refl;
        stands = (no_going (stored one 8 1 0 refl) refl refl, no_going (stored one 8 1 (slot_word 2 3) refl) refl refl, good.in_alone);
      }

  stopped_demands : StoppedDemands any
  unfolding sum_below padded list_below bit bit_on insecure well_formed legal_entry header rec put puts put_header anew vacate lose map_on tally free_flag map_word page records ledger_of
  stopped_demands =
      record {
        any_first_level = λ ws e. yes_by (filled one 7 ws e refl) refl;
        any_table = λ ws e. yes_by (filled one 8 ws e refl) refl;
        no_first_level = yes_by (gone one 1 refl) refl;
        no_table = yes_by (gone one 2 refl) refl;
        no_tables = (yes_by (gone (gone one 1 refl) 2 refl) refl, yes_by (gone (gone one 2 refl) 1 refl) refl);
        nothing_else = yes_by (gone (gone (gone (gone (gone one 1 refl) 2 refl) 5 refl) 4 refl) 3 refl) refl;
        names_none = yes_by one refl;
        two_first_levels = yes_by one refl;
        two_tables = yes_by one refl;
        no_slot = yes_by (stored one 8 1 0 refl) refl;
        elsewhere = yes_by one refl;
        suspended = yes_by one refl;
        at_most_65n = (no_by one refl, yes_by one refl);
        word_2 = (no_by one refl, good.in_stopped);
        counts = (no_by one refl, no_by (gone one 1 refl) refl, good.in_stopped);
        owners = (no_by one refl, good.in_stopped);
        words = (no_by one refl, no_by one refl, no_by one refl, no_by one refl, no_by one refl, no_by one refl, good.in_stopped);
        entry = (no_by one refl, no_by one refl, good.in_stopped);
        registers = (no_by one refl, good.in_stopped);
        zero_memory = (
          no_by (stored one 6 0 1 refl) refl,
          no_by (stored one 10 0 1 refl) refl,
          no_by (stored one 11 0 1 refl) refl,
          no_by (stored one 12 0 1 refl) refl,
          good.in_stopped,
        );
      }

  thread_demands : ThreadDemands any
  unfolding sum_below padded list_below bit bit_on insecure well_formed legal_entry header rec put puts put_header anew vacate lose map_on tally free_flag map_word page records ledger_of
  thread_demands =
      record {
        every_entry = (no_by one refl, no_by one refl, no_by one refl, good.in_alone.if_final, good.in_running, good.in_suspended);
        registers = (no_by one refl, no_by one refl, good.in_alone.if_final, good.in_suspended);
        no_flags = (no_by one refl, yes_by one refl);
        free_memory = (no_by (stored one 12 0 1 refl) refl, no_by (stored one 13 1023 1 refl) refl, good.in_alone.if_building);
        space_memory = (no_by (stored one 6 0 1 refl) refl, no_by (stored one 6 1023 1 refl) refl, good.in_alone.if_building);
        thread_memory = (no_by (stored one 10 0 1 refl) refl, no_by (stored one 10 1023 1 refl) refl, good.in_alone.if_building);
        spare_memory = (no_by (stored one 11 0 1 refl) refl, no_by (stored one 11 1023 1 refl) refl, good.in_alone.if_building);
        data_memory = λ ws e. yes_by (filled one 9 ws e refl) refl;
        runs_thread = (no_by one refl, no_by one refl, good.in_running);
        runs_awake = (no_by one refl, good.in_running);
        runs_final = (no_by one refl, no_by one refl, good.in_running);
      }

pub acceptance_demands : AcceptanceDemands
acceptance_demands any =
    record {
      lent = lent_demands any;
      layout = layout_demands any;
      counts = count_demands any;
      links = link_demands any;
      when_stopped = stopped_demands any;
      threads = thread_demands any;
    }
