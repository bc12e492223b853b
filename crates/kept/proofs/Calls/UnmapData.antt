-- Call 37, UnmapData p, keeps what acceptance demands. Assumes nothing.
use Prim.Native.Nat.{ℕ, ◌+◌, ◌*◌, ◌≤◌, ◌<◌}
use mathlib.Core.Path.{◌≡◌, ◌∙◌}
use mathlib.Core.List.{List, [], ◌∷◌}
use native.Mathlib.Omega.{arith}
use lib.ListN.{length}
use Rattle.machine.specs.declared.Machine.{Machine}
use Rattle.machine.specs.Machine.{frame_words}
use Rattle.mapping.specs.Mapping.{slot_of}
use Rattle.ledger.specs.Names.{running_word, space, data_page, spare, final}
use Rattle.ledger.specs.Ledger.{header, rec, anew}
use Rattle.memory.specs.Memory.{frame, put_word, wiped}
use Rattle.memory.proofs.Frames.{length-put_word, put_word_same, length-wiped, wiped_same, wiped_other}
use Rattle.walk.specs.Walk.{filled}
use Rattle.walk.proofs.Laws.{filled_table}
use Rattle.answer.specs.Refusals.{not_own_data}
use Rattle.answer.specs.Answer.{done, owner}
use Rattle.answer.proofs.Laws.{kept_by_call}
use Rattle.accept.specs.Accept.{Is, Stands, Tables, Accepted}
use Rattle.enclave.specs.Calls.{first_page, own_code, unmap_data}
use Rattle.enclave.proofs.Laws.{passes_own}
use Rattle.kept.proofs.Facts.Leaves.{apart, stood}
use Rattle.kept.proofs.Layers.Empty.{empty_kept}
use Rattle.kept.proofs.Facts.Bridge.{page_in, word_other, is_space, accepted}
use Rattle.kept.proofs.Layers.Convert.{converted}
use Rattle.kept.proofs.Facts.Acting.{acts}

module _ {b : Machine} {M L : List ℕ} (ok : Accepted b M L) {a p : ℕ} (al : a < b.pages) (type : rec L a 0 ≡ space) (now : rec L a 3 ≡ final)
    (is_data : Is b (rec L) a data_page p) where
  tables : Tables b (rec L) (frame M) a
  tables = (ok.rules.spaces a al type).tables (λ z. omega arith)

  abbrev stands : Stands b (rec L) (frame M) a p
  stands = tables.stands p is_data

  abbrev T : ℕ
  T = stands.table

  -- the memory with p's slot empty, and then with p's frame zero
  abbrev N : List ℕ
  N = put_word M (b.secure + T) (slot_of (rec L p 2)) 0

  fits : frame_words * (b.secure + p) + frame_words ≤ length N
  fits = rw (length-put_word M (b.secure + T) (slot_of (rec L p 2)) 0) (page_in ok p is_data.below)

  other : (q k : ℕ) → (q ≡ p → ⊥) → k < frame_words → frame (wiped N (b.secure + p)) (b.secure + q) k ≡ frame N (b.secure + q) k
  other q k n l = wiped_other N (b.secure + p) fits (b.secure + q) k (λ e. n (omega arith)) l

  unmapped_kept : Accepted b (wiped (filled M b.secure (rec L a 2) (rec L p 2) 0) (b.secure + p)) (anew L p (spare ∷ a ∷ []))
  unmapped_kept =
      let j = slot_of (rec L p 2) in
      let d = is_data.type in
      let x = converted ok al type now is_data.below is_data.own (omega arith) spare [] (omega arith) in
      rw (filled_table M b.secure (rec L a 2) (rec L p 2) 0 T (stood tables is_data).named)
      (accepted ok (length-wiped N (b.secure + p) fits ∙ length-put_word M (b.secure + T) j 0) x.size
      (empty_kept (is_space ok al type) tables is_data ok.rules x.turns stands
      (record {
        new = x.new;
        blank = wiped_same N (b.secure + p) fits;
        here =
            other T j (apart (rec L) stands.is_table.type is_data.type (λ z. omega arith)) (omega arith)
            ∙ put_word_same M (b.secure + T) j 0 (omega (arith, page_in ok T stands.is_table.below));
        memory = λ q l n k kl nT. other q k n kl ∙ word_other M b.secure T j 0 q k (omega arith) kl nT;
      })
      x.header))

pub kept_unmap_data : (b : Machine) (M L : List ℕ) (p t : ℕ) → header L running_word ≡ t + 1 → Accepted b M L
    → Accepted b (unmap_data b M L p).mem (unmap_data b M L p).led
unfolding unmap_data
kept_unmap_data b M L p t e ok =
    kept_by_call (Accepted b) (own_code b L p data_page not_own_data) M L
    (done (wiped (filled M b.secure (first_page L) (rec L p 2) 0) (b.secure + p)) (anew L p (spare ∷ owner L ∷ []))) ok
    (λ z.
    let (al, type, now) = acts ok t e in
    let (pl, own, was) = passes_own b L p data_page 16 z in
    unmapped_kept ok al type now (record { below = pl; type = was; own = own }))
