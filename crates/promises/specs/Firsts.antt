-- Demand 2: "done when the rules allow it, otherwise the first refusal that applies." Each row of document 01's table of calls, as request
-- #103 amends it, its tests from left to right, said of record words, frame words and machine numbers; of any state whatever. Assumes nothing.
use Rattle.std.specs.Prelude.{ℕ, ◌+◌, ◌/◌, ◌%◌, ◌^◌, ◌≤◌, ◌<◌, ◌≡◌, ◌⊎◌, List}
use Rattle.machine.specs.declared.Machine.{Machine}
use Rattle.mapping.specs.Mapping.{most_tables}
use Rattle.ledger.specs.Names.{running_word, free, space, thread, data_page, spare, building, final, stopped}
use Rattle.ledger.specs.Ledger.{header, type_of, owner_of, first_of, state_of, count_of, suspended_of}
use Rattle.memory.specs.Memory.{frame}
use Rattle.answer.specs.Refusals.{no_such_page, not_free, not_space, wrong_state, owner_not_final, ill_formed, slot_taken, no_table, not_insecure, not_thread, is_suspended, not_suspended, not_stopped, still_owns, wrong_time, not_own_spare, not_own_data, bad_record, no_such_index, already_free, bad_entry, interrupted, faulted}
use Rattle.answer.specs.Answer.{owner}
use Rattle.records.specs.Records.{arg}
use Rattle.batch.specs.Batch.{obey}
use Rattle.promises.specs.Terms.{code_of, OfMonitor, OfSecure}

-- ---- tests in order: where T holds the code is c; where it does not, what comes after decides
abbrev pub Tests : Type 1
Tests = ℕ → Type 0

infixr 4 ◌gives◌else◌
abbrev pub ◌gives◌else◌ : Type 0 → ℕ → Tests → Tests
(T gives c else after) code = (T × (code ≡ c)) ⊎ ((T → ⊥) × after code)

-- no test is left: the call is done, or ends as an outcome
abbrev pub ends : ℕ → Tests
ends c code = code ≡ c

abbrev pub done : Tests
done = ends 0

abbrev pub Not : Type 0 → Type 0
Not T = T → ⊥

-- ---- tests that several rows share
-- "a non-zero word after the arguments", of which there are k; "calls 1-13 while a thread runs, 32-42 while none does"
abbrev pub MoreWords : ℕ → List ℕ → Type 0
MoreWords k W = (i : ℕ) × (k < i) × (arg W i ≡ 0 → ⊥)

abbrev pub systems : ℕ → List ℕ → List ℕ → Tests → Tests
systems k L W after = MoreWords k W gives bad_record else Not (header L running_word ≡ 0) gives wrong_time else after

abbrev pub enclaves : ℕ → List ℕ → List ℕ → Tests → Tests
enclaves k L W after = MoreWords k W gives bad_record else (header L running_word ≡ 0) gives wrong_time else after

-- "AS means: page ≥ n 1, not an address space 3. PG: page ≥ n 1, not free 2."
abbrev pub AS : Machine → List ℕ → ℕ → Tests → Tests
AS b L a after = (b.pages ≤ a) gives no_such_page else Not (type_of L a ≡ space) gives not_space else after

abbrev pub PG : Machine → List ℕ → ℕ → Tests → Tests
PG b L p after = (b.pages ≤ p) gives no_such_page else Not (type_of L p ≡ free) gives not_free else after

-- "not building 4"
abbrev pub Building : List ℕ → ℕ → Tests → Tests
Building L a after = Not (state_of L a ≡ building) gives wrong_state else after

-- #103: a legal entry is "a multiple of 4" and not "at or above 2^30"
pub record Legal (entry : ℕ) : Type 0 where
  pub multiple : entry % 4 ≡ 0
  pub low : entry < 2 ^ 30

-- a mapping word: read in bit 0, the page address in bits 12-29, rights in bits 0-2, zeros elsewhere
pub record Shaped (map : ℕ) : Type 0 where
  pub reads : map % 2 ≡ 1
  pub zeros : map / 2 ^ 3 % 2 ^ 9 ≡ 0
  pub low : map < 2 ^ 30

-- "ADDR: no table 8, slot taken 7": first-level page f has no table for map's index; or that table's slot is not empty
pub record Taken (b : Machine) (M : List ℕ) (f map : ℕ) : Type 0 where
  pub table : ℕ
  pub linked : frame M (b.secure + f) (map / 2 ^ 22 % 2 ^ 8) ≡ table + 1
  pub full : frame M (b.secure + table) (map / 2 ^ 12 % 2 ^ 10) ≡ 0 → ⊥

abbrev pub ADDR : Machine → List ℕ → ℕ → ℕ → Tests → Tests
ADDR b M f map after =
    (frame M (b.secure + f) (map / 2 ^ 22 % 2 ^ 8) ≡ 0) gives no_table else Taken b M f map gives slot_taken else after

-- "frame not insecure 9": no frame, a secure one, or the monitor's
abbrev pub Shut : Machine → ℕ → Type 0
Shut b g = (b.frames ≤ g) ⊎ OfSecure b g ⊎ OfMonitor b g

-- "i ≥ 256 21; taken 7"
abbrev pub INDEX : Machine → List ℕ → ℕ → ℕ → Tests → Tests
INDEX b M f i after = (most_tables ≤ i) gives no_such_index else Not (frame M (b.secure + f) i ≡ 0) gives slot_taken else after

-- "1; not own spare 16": the page is not the running thread's owner's, or not of type t
abbrev pub OWN : Machine → List ℕ → ℕ → ℕ → ℕ → Tests → Tests
OWN b L t c p after = (b.pages ≤ p) gives no_such_page else (Not (owner_of L p ≡ owner L) ⊎ Not (type_of L p ≡ t)) gives c else after

-- "≥ n 1; not a thread 10; owner not final 5"
abbrev pub THREAD : Machine → List ℕ → ℕ → Tests → Tests
THREAD b L t after =
    (b.pages ≤ t) gives no_such_page else Not (type_of L t ≡ thread) gives not_thread
    else Not (state_of L (owner_of L t) ≡ final) gives owner_not_final else after

-- for 41 and 42: "not a multiple of 4, at or above 2^30, unmapped, or a store without write: as 40"
abbrev pub ACCESS : Machine → List ℕ → List ℕ → ℕ → Tests → Tests
ACCESS b M L v after =
    Not (v % 4 ≡ 0) gives faulted else (2 ^ 30 ≤ v) gives faulted
    else Not (Taken b M (first_of L (owner L)) v) gives faulted else after

-- the slot of address v, of the running space, lacks the write right
pub record NoWrite (b : Machine) (M L : List ℕ) (v : ℕ) : Type 0 where
  pub table : ℕ
  pub linked : frame M (b.secure + first_of L (owner L)) (v / 2 ^ 22 % 2 ^ 8) ≡ table + 1
  pub right : frame M (b.secure + table) (v / 2 ^ 12 % 2 ^ 10) / 2 % 2 ≡ 0

-- "space not stopped 13, still owns 14; other non-spare with owner not stopped 13"
pub record SpaceGoing (L : List ℕ) (p : ℕ) : Type 0 where
  pub is_space : type_of L p ≡ space
  pub going : state_of L p ≡ stopped → ⊥

pub record SpaceOwns (L : List ℕ) (p : ℕ) : Type 0 where
  pub is_space : type_of L p ≡ space
  pub owns : count_of L p ≡ 0 → ⊥

pub record OwnerGoing (L : List ℕ) (p : ℕ) : Type 0 where
  pub no_space : type_of L p ≡ space → ⊥
  pub no_spare : type_of L p ≡ spare → ⊥
  pub going : state_of L (owner_of L p) ≡ stopped → ⊥

-- ---- the rows: for every record that asks for call i, the answer's code is that of the first test that holds
abbrev pub Row : ℕ → (Machine → (M L W : List ℕ) → Tests) → Type 0
Row i tests = (b : Machine) (M L W : List ℕ) → arg W 0 ≡ i → tests b M L W (code_of (obey b M L W))

pub record FirstRefusals : Type 0 where
  -- "unknown number" 19
  pub unknown : (b : Machine) (M L W : List ℕ) → (arg W 0 < 1) ⊎ ((13 < arg W 0) × (arg W 0 < 32)) ⊎ (42 < arg W 0) → code_of (obey b M L W) ≡ bad_record
  pub get_phys_pages : Row 1 (λ b M L W. systems 0 L W done)
  pub init_addr_space :
      Row 2
      (λ b M L W.
      systems 2 L W
      ((b.pages ≤ arg W 1) gives no_such_page else (b.pages ≤ arg W 2) gives no_such_page
      else Not (type_of L (arg W 1) ≡ free) gives not_free else Not (type_of L (arg W 2) ≡ free) gives not_free
      else (arg W 1 ≡ arg W 2) gives not_free else done))
  pub init_thread :
      Row 3
      (λ b M L W.
      systems 3 L W (AS b L (arg W 1) (Building L (arg W 1) (PG b L (arg W 2) (Not (Legal (arg W 3)) gives bad_entry else done)))))
  pub init_table :
      Row 4
      (λ b M L W.
      systems 3 L W
      (AS b L (arg W 1) (Building L (arg W 1) (PG b L (arg W 2) (INDEX b M (first_of L (arg W 1)) (arg W 3) done)))))
  pub alloc_spare :
      Row 5
      (λ b M L W.
      systems 2 L W (AS b L (arg W 1) ((state_of L (arg W 1) ≡ stopped) gives wrong_state else PG b L (arg W 2) done)))
  pub map_secure :
      Row 6
      (λ b M L W.
      systems 4 L W
      (AS b L (arg W 1) (Building L (arg W 1) (PG b L (arg W 2)
      (Not (Shaped (arg W 3)) gives ill_formed
      else ADDR b M (first_of L (arg W 1)) (arg W 3) (Shut b (arg W 4) gives not_insecure else done))))))
  pub map_insecure :
      Row 7
      (λ b M L W.
      systems 3 L W
      (AS b L (arg W 1) (Building L (arg W 1)
      ((Not (Shaped (arg W 2)) ⊎ (arg W 2 / 4 % 2 ≡ 1)) gives ill_formed
      else ADDR b M (first_of L (arg W 1)) (arg W 2) (Shut b (arg W 3) gives not_insecure else done)))))
  pub finalise : Row 8 (λ b M L W. systems 1 L W (AS b L (arg W 1) (Building L (arg W 1) done)))
  pub enter_thread :
      Row 9 (λ b M L W. systems 4 L W (THREAD b L (arg W 1) (Not (suspended_of L (arg W 1) ≡ 0) gives is_suspended else done)))
  pub resume : Row 10 (λ b M L W. systems 1 L W (THREAD b L (arg W 1) ((suspended_of L (arg W 1) ≡ 0) gives not_suspended else done)))
  pub stop : Row 11 (λ b M L W. systems 1 L W (AS b L (arg W 1) done))
  pub remove :
      Row 12
      (λ b M L W.
      systems 1 L W
      ((b.pages ≤ arg W 1) gives no_such_page else (type_of L (arg W 1) ≡ free) gives already_free
      else SpaceGoing L (arg W 1) gives not_stopped else SpaceOwns L (arg W 1) gives still_owns
      else OwnerGoing L (arg W 1) gives not_stopped else done))
  pub free_pages : Row 13 (λ b M L W. systems 0 L W done)
  pub get_random : Row 32 (λ b M L W. enclaves 1 L W done)
  pub attest : Row 33 (λ b M L W. enclaves 8 L W done)
  pub verify : Row 34 (λ b M L W. enclaves 24 L W done)
  pub spare_table :
      Row 35
      (λ b M L W.
      enclaves 2 L W (OWN b L spare not_own_spare (arg W 1) (INDEX b M (first_of L (owner L)) (arg W 2) done)))
  pub map_data :
      Row 36
      (λ b M L W.
      enclaves 2 L W
      (OWN b L spare not_own_spare (arg W 1)
      (Not (Shaped (arg W 2)) gives ill_formed else ADDR b M (first_of L (owner L)) (arg W 2) done)))
  pub unmap_data : Row 37 (λ b M L W. enclaves 1 L W (OWN b L data_page not_own_data (arg W 1) done))
  pub exit : Row 38 (λ b M L W. enclaves 1 L W done)
  pub interrupt : Row 39 (λ b M L W. enclaves 17 L W (ends interrupted))
  pub fault : Row 40 (λ b M L W. enclaves 0 L W (ends faulted))
  pub load : Row 41 (λ b M L W. enclaves 1 L W (ACCESS b M L (arg W 1) done))
  pub store : Row 42 (λ b M L W. enclaves 2 L W (ACCESS b M L (arg W 1) (NoWrite b M L (arg W 1) gives faulted else done)))
