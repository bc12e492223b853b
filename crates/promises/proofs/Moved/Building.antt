-- What calls 2 to 6 and 8 do to the ledger where no check refuses. Assumes nothing.
use Prim.Native.Nat.{ℕ, ◌≤◌, ◌<◌}
use mathlib.Core.Path.{◌≡◌, sym, ◌∙◌}
use mathlib.Core.List.{List, [], ◌∷◌}
use mathlib.Core.Logic.{◌⊎◌, ⊎_elim, inl, inr}
use native.Mathlib.Omega.{arith}
use lib.ListN.{length}
use Rattle.words.specs.Words.{record_words}
use Rattle.machine.specs.declared.Machine.{Machine}
use Rattle.sha256.specs.Sha256.{H0, compress, absorb, finish}
use Rattle.sha256.proofs.Laws.{compress_length, absorb_length, finish_length}
use Rattle.ledger.specs.Names.{free, space, thread, first_level, second_level, data_page, spare, building, final}
use Rattle.ledger.specs.Ledger.{rec, hash, put, occupy, gain, put_hash, measure}
use Rattle.ledger.proofs.Views.{length-put, put_same, put_word}
use Rattle.ledger.proofs.Effects.{length-occupy, occupy_same, occupy_other, length-gain, gain_other, put_hash_same, put_hash_word, measure_hash}
use Rattle.memory.specs.Memory.{words_of}
use Rattle.answer.specs.Answer.{building_code}
use Rattle.answer.proofs.Laws.{passes_building}
use Rattle.accept.specs.Accept.{Accepted}
use Rattle.building.specs.Calls.{init_addr_space_code, new_space, init_thread_code, thread_block, add_thread, new_thread, init_table_code, new_table, alloc_spare_code, new_spare, map_secure_code, map_block, add_page, new_data, finalised}
use Rattle.building.proofs.Laws.{passes_init_addr_space, passes_init_thread, passes_init_table, passes_alloc_spare, passes_map_secure}
use Rattle.kept.proofs.Facts.Leaves.{apart}
use Rattle.kept.proofs.Facts.Bridge.{bit_in, record_in}
use Rattle.kept.proofs.Facts.Wrote.{Wrote, wrote_put, wrote_hash, wrote_then}
use Rattle.kept.proofs.Layers.Alloc.{Charged, gained, measured_on}
use Rattle.kept.proofs.Calls.InitAddrSpace.{founds}
use Rattle.promises.proofs.Read.{hash_is, hash_same}
use Rattle.promises.proofs.Moves.{Founding, Making, Closing}
use Rattle.promises.proofs.Moved.Steps.{calm_wrote, calm_occupy, calm_then}

-- ---- 2: a space and its first-level page
pub founding : {b : Machine} {M L : List ℕ} (a f : ℕ) → Accepted b M L → init_addr_space_code b L a f ≡ 0 → Founding b L (new_space L a f) a f
unfolding new_space
founding {b} {M} {L} a f ok z =
    let (al, fl, af, ff, ne) = passes_init_addr_space b L a f z in
    let vs : List ℕ = space ∷ a ∷ f ∷ building ∷ 1 ∷ 0 ∷ H0 in
    let x = founds ok al fl af ff ne in
    record {
      calm = calm_then (calm_occupy L a vs (bit_in ok a al)) (calm_occupy (occupy L a vs) f (first_level ∷ a ∷ []) (bit_in ok f fl));
      a_below = al;
      f_below = fl;
      a_free = af;
      f_free = ff;
      a_new = x.space_words;
      f_new = x.first_words;
      others = x.others;
    }

-- ---- 3 to 6: a free page p becomes a page of space a
module _ {b : Machine} {M L : List ℕ} (ok : Accepted b M L) {a p : ℕ} (al : a < b.pages) (type : rec L a 0 ≡ space)
    (pl : p < b.pages) (was : rec L p 0 ≡ free) (t : ℕ) (vs : List ℕ) where
  abbrev taken : List ℕ
  taken = occupy L p (t ∷ a ∷ vs)

  abbrev charged : List ℕ
  charged = gain taken a

  a_not_p : a ≡ p → ⊥
  a_not_p = apart (rec L) type was (λ z. omega arith)

  space_same : (k : ℕ) → k < record_words → rec taken a k ≡ rec L a k
  space_same k l = occupy_other L p (t ∷ a ∷ vs) (bit_in ok p pl) a k a_not_p l

  making : {L' h : List ℕ} {k : ℕ} → Charged taken L' a k → hash L' a ≡ h → Making b L L' a p (t ∷ a ∷ vs) k h
  making x e =
      let pin = bit_in ok p pl in
      record {
        calm = calm_then (calm_occupy L p (t ∷ a ∷ vs) pin) (calm_wrote x.wrote);
        is_space = type;
        p_below = pl;
        p_free = was;
        new = λ j l. x.wrote.others p (λ e. a_not_p (sym e)) j l ∙ occupy_same L p (t ∷ a ∷ vs) pin (record_in ok p pl) j l;
        blocks = omega (arith, x.blocks, space_same 5 (omega arith));
        hashes = e;
        words = λ j o l. x.word j o ∙ space_same j l;
        others = λ q na np j l. x.wrote.others q na j l ∙ occupy_other L p (t ∷ a ∷ vs) pin q j np l;
      }

  -- not measured; measured
  plainly : Making b L charged a p (t ∷ a ∷ vs) 0 (hash L a)
  plainly =
      making (gained ok al type pl was t vs)
      (hash_same L charged a (λ j lo hi. gain_other taken a a j (λ e. omega arith) ∙ space_same j (omega arith)))

  measuring : (k : ℕ) (h : List ℕ) → k < 66 → length h ≡ 8 → Making b L (measure charged a k h) a p (t ∷ a ∷ vs) k h
  measuring k h few e =
      making (measured_on ok al type pl was t vs k h (omega arith))
      (hash_is (measure charged a k h) a h e
      (measure_hash charged a k h (omega (arith, length-gain taken a, length-occupy L p (t ∷ a ∷ vs), record_in ok a al))))

pub making_thread : {b : Machine} {M L : List ℕ} (a t entry : ℕ) → Accepted b M L → init_thread_code b L a t entry ≡ 0
    → (rec L a 3 ≡ building) × Making b L (new_thread L a t entry) a t (thread ∷ a ∷ entry ∷ []) 1 (compress (hash L a) (thread_block entry))
unfolding new_thread add_thread
making_thread {b} {M} {L} a t entry ok z =
    let (al, type, now, tl, was, _) = passes_init_thread b L a t entry z in
    (now, measuring ok al type tl was thread (entry ∷ []) 1 _ (omega arith) (compress_length _ _))

pub making_table : {b : Machine} {M L : List ℕ} (a p i : ℕ) → Accepted b M L → init_table_code b M L a p i ≡ 0
    → (rec L a 3 ≡ building) × Making b L (new_table L a p i) a p (second_level ∷ a ∷ i ∷ []) 0 (hash L a)
unfolding new_table
making_table {b} {M} {L} a p i ok z =
    let (al, type, now, pl, was, _, _) = passes_init_table b M L a p i z in
    (now, plainly ok al type pl was second_level (i ∷ []))

pub making_spare : {b : Machine} {M L : List ℕ} (a p : ℕ) → Accepted b M L → alloc_spare_code b L a p ≡ 0
    → Making b L (new_spare L a p) a p (spare ∷ a ∷ []) 0 (hash L a)
unfolding new_spare
making_spare {b} {M} {L} a p ok z =
    let (al, type, _, pl, was) = passes_alloc_spare b L a p z in
    plainly ok al type pl was spare []

pub making_data : {b : Machine} {M L : List ℕ} (a p map g : ℕ) → Accepted b M L → map_secure_code b M L a p map g ≡ 0
    → (rec L a 3 ≡ building) ×
    Making b L (new_data L a p map (add_page (hash L a) map (words_of M g))) a p (data_page ∷ a ∷ map ∷ []) 65
    (absorb (compress (hash L a) (map_block map)) (words_of M g))
unfolding new_data add_page
making_data {b} {M} {L} a p map g ok z =
    let (al, type, now, pl, was, _, _, _) = passes_map_secure b M L a p map g z in
    (now, measuring ok al type pl was data_page (map ∷ []) 65 _ (omega arith) (absorb_length _ _ (compress_length _ _)))

-- ---- 8: the space is final
pub closing : {b : Machine} {M L : List ℕ} (a : ℕ) → Accepted b M L → building_code b L a ≡ 0 → Closing L (finalised L a) a
unfolding finalised
closing {b} {M} {L} a ok z =
    let (al, type, was) = passes_building b L a z in
    let K = put L a 3 final in
    let h = finish (hash L a) (rec L a 5) in
    let room = record_in ok a al in
    let x : Wrote L (put_hash K a h) a = wrote_then (wrote_put L a 3 final (omega arith)) (wrote_hash K a h) in
    record {
      calm = calm_wrote x;
      is_space = type;
      was = was;
      now = put_hash_word K a h 3 (inl (omega arith)) ∙ put_same L a 3 final (omega arith);
      hashes = hash_is (put_hash K a h) a h (finish_length _ _) (put_hash_same K a h (rw (length-put L a 3 final) room));
      words = λ j o l. put_hash_word K a h j (outside j o) ∙ put_word L a 3 final j (not_state j o);
      others = x.others;
    }
  where
    outside : (j : ℕ) → (j < 3) ⊎ ((3 < j) × (j < 6)) ⊎ (14 ≤ j) → (j < 6) ⊎ (14 ≤ j)
    outside j = ⊎_elim (λ l. inl (omega arith)) (⊎_elim (λ l. inl l.1) inr)

    not_state : (j : ℕ) → (j < 3) ⊎ ((3 < j) × (j < 6)) ⊎ (14 ≤ j) → j ≡ 3 → ⊥
    not_state j o e = ⊎_elim (λ l. omega arith) (⊎_elim (λ l. let m = l.0 in omega arith) (λ l. omega arith)) o
