-- What a code of 0 says of an enclave's call, the facts that were tested; and an access by what it is translated to. Assumes nothing.
use Prim.Native.Nat.{ℕ, suc, ◌+◌, ◌<◌}
use mathlib.Core.Path.{◌≡◌}
use mathlib.Core.Bool.{true, false}
use mathlib.Core.List.{List}
use Rattle.words.proofs.Codes.{or_none, passes_not, in_range, is}
use Rattle.machine.specs.declared.Machine.{Machine}
use Rattle.mapping.specs.Mapping.{well_formed}
use Rattle.ledger.specs.Names.{spare}
use Rattle.ledger.specs.Ledger.{rec}
use Rattle.memory.specs.Memory.{frame, put_word}
use Rattle.walk.specs.Walk.{translate, frame_of, word_of}
use Rattle.std.specs.Prelude.{Some, None}
use Rattle.walk.proofs.Laws.{Holds, by-slot}
use Rattle.answer.specs.Answer.{Out, done, gives, owner}
use Rattle.answer.proofs.Laws.{passes_addr, passes_index}
use Rattle.enclave.specs.Calls.{first_page, own_code, spare_table_code, map_data_code, fault, load, store}

module _ (b : Machine) (L : List ℕ) (p : ℕ) where
  -- page p is the running thread's owner's, and of type t
  pub passes_own : (t c : ℕ) → own_code b L p t (suc c) ≡ 0 → (p < b.pages) × (rec L p 1 ≡ owner L) × (rec L p 0 ≡ t)
  unfolding own_code
  passes_own t c e =
      let x = or_none e in
      let y = or_none x.1 in
      (in_range b.pages p 0 x.0, is (rec L p 1) (owner L) c y.0, is (rec L p 0) t c y.1)

module _ (b : Machine) (M L : List ℕ) (p : ℕ) where
  pub passes_spare_table : (i : ℕ) → spare_table_code b M L p i ≡ 0
      → (p < b.pages) × (rec L p 1 ≡ owner L) × (rec L p 0 ≡ spare) × (i < 256) × (frame M (b.secure + first_page L) i ≡ 0)
  unfolding spare_table_code
  passes_spare_table i e =
      let x = or_none e in
      let y = passes_own b L p spare 15 x.0 in
      let z = passes_index M b.secure (first_page L) i x.1 in
      (y.0, y.1, y.2, z.0, z.1)

  pub passes_map_data : (map : ℕ) → map_data_code b M L p map ≡ 0
      → (p < b.pages) × (rec L p 1 ≡ owner L) × (rec L p 0 ≡ spare) × (well_formed map ≡ true) × Holds M b.secure (first_page L) map 0
  unfolding map_data_code
  passes_map_data map e =
      let x = or_none e in
      let y = passes_own b L p spare 15 x.0 in
      let z = or_none x.1 in
      (y.0, y.1, y.2, passes_not (well_formed map) 5 z.0, passes_addr M b.secure (first_page L) map z.1)

-- ---- an access is translated, or ends the run; what holds in both cases holds of the call
module _ (b : Machine) (M L : List ℕ) (va : ℕ) where
  pub load_no : translate M b.secure (first_page L) va false ≡ None → load b M L va ≡ fault M L
  unfolding load
  load_no e = rw e

  pub load_yes : {v : ℕ} → translate M b.secure (first_page L) va false ≡ Some v → load b M L va ≡ gives (frame M (frame_of v) (word_of va)) M L
  unfolding load
  load_yes e = rw e

  pub by_load : (P : Out → Type 0) → (translate M b.secure (first_page L) va false ≡ None → P (fault M L))
      → ((v : ℕ) → translate M b.secure (first_page L) va false ≡ Some v → P (gives (frame M (frame_of v) (word_of va)) M L)) → P (load b M L va)
  by_load P faults gives = by-slot M b.secure (first_page L) va false (λ e. rw (load_no e) (faults e)) (λ v e. rw (load_yes e) (gives v e))

  module _ (w : ℕ) where
    pub store_no : translate M b.secure (first_page L) va true ≡ None → store b M L va w ≡ fault M L
    unfolding store
    store_no e = rw e

    pub store_yes : {v : ℕ} → translate M b.secure (first_page L) va true ≡ Some v → store b M L va w ≡ done (put_word M (frame_of v) (word_of va) w) L
    unfolding store
    store_yes e = rw e

    pub by_store : (P : Out → Type 0) → (translate M b.secure (first_page L) va true ≡ None → P (fault M L))
        → ((v : ℕ) → translate M b.secure (first_page L) va true ≡ Some v → P (done (put_word M (frame_of v) (word_of va) w) L))
        → P (store b M L va w)
    by_store P faults puts = by-slot M b.secure (first_page L) va true (λ e. rw (store_no e) (faults e)) (λ v e. rw (store_yes e) (puts v e))
