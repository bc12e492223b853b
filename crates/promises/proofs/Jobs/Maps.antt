-- What calls 6, 7, 36 and 37 are for: an address that finds its frame, and one that finds nothing more. Assumes nothing.
use Prim.Native.Nat.{ℕ, ◌+◌, ◌*◌, ◌≤◌, ◌<◌}
use mathlib.Core.Path.{◌≡◌, refl, sym, ◌∙◌}
use mathlib.Core.Bool.{true}
use mathlib.Core.List.{List, [], ◌∷◌}
use mathlib.Core.Logic.{inr}
use native.Mathlib.Omega.{arith}
use lib.ListN.{length}
use borrow.Author.Tests.{eqb-false}
use Rattle.words.specs.Words.{bits}
use Rattle.machine.specs.declared.Machine.{Machine}
use Rattle.machine.specs.Machine.{frame_words}
use Rattle.mapping.specs.Mapping.{index_of, slot_of, rights_of, well_formed}
use Rattle.ledger.specs.Names.{space, data_page, stopped}
use Rattle.ledger.specs.Ledger.{rec}
use Rattle.memory.specs.Memory.{frame, copied, wiped}
use Rattle.memory.proofs.Frames.{put_word_same, put_word_frame, copied_same, copied_other, wiped_same, wiped_other}
use Rattle.walk.specs.Walk.{filled, mapped, slot_word}
use Rattle.walk.proofs.Laws.{Holds, length-filled, filled_table}
use Rattle.answer.specs.Answer.{owner}
use Rattle.accept.specs.Accept.{Is, Tables, Accepted}
use Rattle.building.specs.Calls.{map_secure, map_insecure}
use Rattle.building.proofs.Laws.{passes_map_secure, passes_map_insecure}
use Rattle.enclave.specs.Calls.{map_data, unmap_data}
use Rattle.enclave.proofs.Laws.{passes_own, passes_map_data}
use Rattle.records.specs.Records.{arg}
use Rattle.calls.specs.Table.{calls, lookup}
use Rattle.kept.proofs.Facts.Acting.{acts}
use Rattle.kept.proofs.Facts.Bridge.{page_in, frame_in, tables_of}
use Rattle.kept.proofs.Facts.Leaves.{Linked, apart, own_table, stood, not_linked, mapped_besides}
use Rattle.promises.specs.Jobs.{Mapped, MapSecureIsFor, MapInsecureIsFor, MapDataIsFor, UnmapDataIsFor}
use Rattle.promises.proofs.Kept.{every_record_keeps}
use Rattle.promises.proofs.Opened.{effect, runs_for}
use Rattle.promises.proofs.Moved.Building.{making_data}
use Rattle.promises.proofs.Moved.Enclave.{turning_data, turning_spare}
use Rattle.promises.proofs.Moved.Given.{Given, made, turned, is_new}
use Rattle.promises.proofs.Jobs.Finds.{mapped_to, gone_from}

-- ---- a space that is not stopped, of an accepted state
module _ {b : Machine} {M L : List ℕ} (ok : Accepted b M L) {a : ℕ} (al : a < b.pages) (type : rec L a 0 ≡ space)
    (going : rec L a 3 ≡ stopped → ⊥) where
  tables : Tables b (rec L) (frame M) a
  tables = tables_of ok al type going

  -- a slot of it filled has its table still, and holds what it was filled with
  refilled : {va x : ℕ} (h : Holds M b.secure (rec L a 2) va x) (v : ℕ)
      → (frame (filled M b.secure (rec L a 2) va v) (b.secure + rec L a 2) (index_of va) ≡ h.table + 1)
      × (frame (filled M b.secure (rec L a 2) va v) (b.secure + h.table) (slot_of va) ≡ v)
  refilled {va} h v =
      let T = h.table in
      let table = (own_table tables h).0 in
      rw (filled_table M b.secure (rec L a 2) va v T h.named) (
        put_word_frame M (b.secure + T) (slot_of va) v (omega arith) (b.secure + rec L a 2) (index_of va)
            (λ e. apart (rec L) tables.first.type table.type (λ z. omega arith) (omega arith)) (omega arith)
            ∙ h.named,
        put_word_same M (b.secure + T) (slot_of va) v (omega (arith, page_in ok T table.below)),
      )

  -- its data page p's slot emptied and then p's frame wiped: the slot is empty, the frame zero
  module _ {p : ℕ} (i : Is b (rec L) a data_page p) where
    abbrev N : List ℕ
    N = filled M b.secure (rec L a 2) (rec L p 2) 0

    fits : frame_words * (b.secure + p) + frame_words ≤ length N
    fits = rw (length-filled M b.secure (rec L a 2) (rec L p 2) 0) (page_in ok p i.below)

    other : {q t : ℕ} → Is b (rec L) a t q → (t ≡ data_page → ⊥) → (k : ℕ) → k < frame_words
        → frame (wiped N (b.secure + p)) (b.secure + q) k ≡ frame N (b.secure + q) k
    other {q} j n k l = wiped_other N (b.secure + p) fits (b.secure + q) k (λ e. apart (rec L) j.type i.type n (omega arith)) l

    emptied : Holds (wiped N (b.secure + p)) b.secure (rec L a 2) (rec L p 2) 0
    emptied =
        let h = stood tables i in
        let x = refilled h 0 in
        record {
          table = h.table;
          named = other tables.first (λ z. omega arith) (index_of (rec L p 2)) (omega arith) ∙ x.0;
          slot = other (own_table tables h).0 (λ z. omega arith) (slot_of (rec L p 2)) (omega arith) ∙ x.1;
        }

  -- page p, no table and no data page, is mapped in a memory N that is M but for it: its words stay
  words_stay : (N : List ℕ) {map p : ℕ} → Holds M b.secure (rec L a 2) map 0 → (Linked (rec L p 0) → ⊥)
      → ((q k : ℕ) → (q ≡ p → ⊥) → k < frame_words → frame N (b.secure + q) k ≡ frame M (b.secure + q) k)
      → (k : ℕ) → k < frame_words → frame (mapped N b.secure (rec L a 2) map p) (b.secure + p) k ≡ frame N (b.secure + p) k
  words_stay N {map} {p} h plain other k l =
      rw (mapped_besides N tables plain other h)
      (put_word_frame N (b.secure + h.table) (slot_of map) (slot_word (b.secure + p) (rights_of map)) (omega arith) (b.secure + p) k
      (λ e. not_linked plain (omega arith) (own_table tables h).0 (omega arith)) l)

-- ---- calls 6 and 36: a space that is not stopped gets page p as a data page
data_found : {b : Machine} {M' L L' : List ℕ} {a p map : ℕ} → Given b L L' a p (data_page ∷ a ∷ map ∷ []) → Accepted b M' L'
    → a < b.pages → (rec L a 3 ≡ stopped → ⊥) → well_formed map ≡ true → Mapped b M' L' a map (b.secure + p)
data_found {b} {p = p} x ok' al going good =
    mapped_to (b.secure + p) good
    (rw (x.new 2 (omega arith)) at
    (stood (tables ok' al (x.low 0 (omega arith) ∙ x.is_space) (λ z. going (sym (x.low 3 (omega arith)) ∙ z))) (is_new x)))

pub map_secure_is_for : MapSecureIsFor
unfolding lookup calls map_secure
map_secure_is_for b M L W ok did =
    let p = arg W 2 in
    let g = arg W 4 in
    let (z, e) = effect refl did refl in
    let (al, type, now, pl, was, good, place, out) = passes_map_secure b M L (arg W 1) p (arg W 3) g z in
    let x = made (making_data (arg W 1) p (arg W 3) g ok z).1 in
    let source = frame_in ok g out in
    let target = page_in ok p pl in
    rw e
    (record {
      is_data = is_new x;
      found = data_found x (rw e at (every_record_keeps b M L W ok)) al (λ u. omega arith) good;
      words = λ k l.
          words_stay ok al type (λ u. omega arith) (copied M g (b.secure + p)) place (λ u. omega arith)
          (λ q j n m. copied_other M g (b.secure + p) source target (b.secure + q) j (λ u. n (omega arith)) m) k l
          ∙ copied_same M g (b.secure + p) source target k l;
    })

pub map_data_is_for : MapDataIsFor
unfolding lookup calls map_data
map_data_is_for b M L W a ok r did =
    let p = arg W 1 in
    let (z, e) = effect refl did refl in
    let (al, type, now) = acts ok r.page r.word in
    let (pl, own, was, good, place) = passes_map_data b M L p (arg W 2) z in
    let x = turned type (λ u. omega arith) (turning_data p (arg W 2) ok z) in
    rw (← runs_for r)
    (rw e
    (record {
      is_data = is_new x;
      found = data_found x (rw e at (every_record_keeps b M L W ok)) al (λ u. omega arith) good;
      zero = λ k l.
          words_stay ok al type (λ u. omega arith) M place (λ u. omega arith) (λ q j n m. refl) k l
          ∙ (ok.rules.pages p pl).blank (inr was) k (omega arith) l;
    }))

-- ---- call 7: the ledger stays
pub map_insecure_is_for : MapInsecureIsFor
unfolding lookup calls map_insecure
map_insecure_is_for b M L W ok did =
    let map = arg W 2 in
    let g = arg W 3 in
    let (z, e) = effect refl did refl in
    let (al, type, now, good, low, place, out) = passes_map_insecure b M L (arg W 1) map g z in
    let x = refilled ok al type (λ u. omega arith) place (slot_word g (rights_of map)) in
    rw e
    (record {
      found = mapped_to g good (record { table = place.table; named = x.0; slot = x.1 });
      never_executes = let n = eqb-false (bits 2 1 map) 1 low in omega arith;
    })

-- ---- call 37
pub unmap_data_is_for : UnmapDataIsFor
unfolding lookup calls unmap_data
unmap_data_is_for b M L W a ok r did =
    let p = arg W 1 in
    let (z, e) = effect refl did refl in
    let (al, type, now) = acts ok r.page r.word in
    let (pl, own, was) = passes_own b L p data_page 16 z in
    let i : Is b (rec L) (owner L) data_page p = record { below = pl; type = was; own = own } in
    let x = turned type (λ u. omega arith) (turning_spare p ok z) in
    rw (← runs_for r)
    (rw e
    (record {
      gone = λ v write same. rw (x.low 2 (omega arith)) (gone_from (emptied ok al type (λ u. omega arith) i) v write same);
      is_spare = is_new x;
      zero = wiped_same (N ok al type (λ u. omega arith) i) (b.secure + p) (fits ok al type (λ u. omega arith) i);
    }))
