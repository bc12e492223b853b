-- What calls 42 and 41 are for: the word stored is read back, and no other word changed. Assumes nothing.
use Prim.Native.Nat.{ℕ, ◌+◌, ◌*◌, ◌<◌}
use mathlib.Core.Path.{◌≡◌, refl, sym, ap, ◌∙◌}
use mathlib.Core.Bool.{true, false, true≢false}
use mathlib.Core.List.{List, [], ◌∷◌}
use mathlib.Core.Logic.{⊎_elim}
use native.Mathlib.Omega.{arith}
use lib.ListN.{length, drop}
use Rattle.words.specs.Words.{all_zero}
use Rattle.machine.specs.declared.Machine.{Machine}
use Rattle.machine.specs.Machine.{frame_words}
use Rattle.mapping.specs.Mapping.{index_of, slot_of}
use Rattle.ledger.specs.Names.{running_word, data_page}
use Rattle.ledger.specs.Ledger.{header, rec}
use Rattle.memory.specs.Memory.{frame, put_word}
use Rattle.memory.proofs.Frames.{put_word_same, put_word_other, put_word_frame}
use Rattle.std.specs.Prelude.{Some}
use Rattle.walk.specs.Walk.{translate, frame_of, word_of}
use Rattle.walk.proofs.Laws.{Translates, translated, translates}
use Rattle.answer.specs.Answer.{running, owner}
use Rattle.accept.specs.Accept.{Accepted}
use Rattle.enclave.specs.Calls.{first_page, fault, store}
use Rattle.enclave.proofs.Laws.{load_yes, store_yes, by_store}
use Rattle.records.specs.Records.{arg}
use Rattle.records.proofs.Form.{somebody_runs}
use Rattle.calls.specs.Table.{calls, lookup}
use Rattle.batch.specs.Batch.{obey}
use Rattle.kept.proofs.Facts.Acting.{acts}
use Rattle.kept.proofs.Facts.Bridge.{page_in, frame_in, tables_of}
use Rattle.kept.proofs.Facts.Leaves.{own_table}
use Rattle.kept.proofs.Reach.{OpenTo, open_through, open_data}
use Rattle.promises.specs.Terms.{code_of}
use Rattle.promises.specs.Jobs.{Stored, StoreIsFor}
use Rattle.promises.proofs.Opened.{opened, its_turn, acted}

-- a store that is done was translated
done_through : (b : Machine) (M L : List ℕ) (va w : ℕ) → code_of (store b M L va w) ≡ 0
    → (v : ℕ) × (translate M b.secure (first_page L) va true ≡ Some v)
unfolding fault
done_through b M L va w =
    by_store b M L va w (λ o. code_of o ≡ 0 → (v : ℕ) × (translate M b.secure (first_page L) va true ≡ Some v)) (λ _ z. absurd (omega arith))
    (λ v y _. (v, y))

-- the running enclave's address is translated to v, and the word there becomes that of the record
module _ {b : Machine} {M L : List ℕ} (ok : Accepted b M L) (runs : header L running_word ≡ running L + 1) (W : List ℕ) (v : ℕ)
    (leads : translate M b.secure (first_page L) (arg W 1) true ≡ Some v) where
  abbrev va : ℕ
  va = arg W 1

  abbrev w : ℕ
  w = arg W 2

  abbrev f : ℕ
  f = frame_of v

  abbrev k : ℕ
  k = word_of va

  abbrev M' : List ℕ
  M' = put_word M f k w

  may : OpenTo b L (owner L) va f
  may = open_through ok (running L) runs va true leads

  inside : frame_words * f + k < length M
  inside = ⊎_elim (λ x. omega (arith, x.2, page_in ok x.0 x.1.below)) (λ out. omega (arith, frame_in ok f out)) may.to

  -- no table's word changes
  tables_stay : (q : ℕ) → q < b.pages → (rec L q 0 ≡ data_page → ⊥) → (j : ℕ) → j < frame_words
      → frame M' (b.secure + q) j ≡ frame M (b.secure + q) j
  tables_stay q l other j jl = put_word_frame M f k w (omega arith) (b.secure + q) j (open_data may q l other) jl

  still : Translates M' b.secure (first_page L) va false v
  still =
      let x = translated M b.secure (first_page L) va true leads in
      let (al, type, now) = acts ok (running L) runs in
      let tables = tables_of ok al type (λ z. omega arith) in
      let first = tables.first in
      let table = (own_table tables x.holds).0 in
      record {
        aligned = x.aligned;
        low = x.low;
        holds = record {
          table = x.holds.table;
          named = tables_stay (first_page L) first.below (λ z. omega (arith, first.type)) (index_of va) (omega arith) ∙ x.holds.named;
          slot = tables_stay x.holds.table table.below (λ z. omega (arith, table.type)) (slot_of va) (omega arith) ∙ x.holds.slot;
        };
        taken = x.taken;
        right = λ e. absurd (true≢false (sym e));
      }

  reads : (X : List ℕ) → arg X 0 ≡ 41 → all_zero (drop 2 X) ≡ true → arg X 1 ≡ va → (obey b M' L X).ans ≡ 0 ∷ w ∷ []
  unfolding lookup calls
  reads X asks z same =
      rw (
        acted refl b M' L X refl (λ n. omega arith) asks z,
        same,
        load_yes b M' L va (translates M' b.secure (first_page L) va false still),
        put_word_same M f k w inside,
      ) refl

  stored : Stored b M L M' L W
  stored =
      record {
        read_back = reads;
        in_frame = f;
        at_word = k;
        others = λ g j l n. put_word_other M f k w g j (λ e. n (omega arith) (omega arith));
      }

pub store_is_for : StoreIsFor
unfolding lookup calls
store_is_for b M L W ok did =
    let e = opened refl did in
    let (v, leads) = done_through b M L (arg W 1) (arg W 2) (ap code_of (sym e) ∙ did.done) in
    rw (e ∙ store_yes b M L (arg W 1) (arg W 2) leads) (stored ok (somebody_runs L 42 refl (its_turn refl did)) W v leads)
