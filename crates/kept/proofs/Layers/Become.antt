-- A free or spare page becomes a table of a under a free index, calls 4 and 35, or a data page of a in an empty slot, calls 6 and 36.
-- Assumes nothing.
use Prim.Native.Nat.{ℕ, ◌+◌, ◌<◌}
use mathlib.Core.Path.{◌≡◌, ◌∙◌}
use mathlib.Core.Bool.{true}
use mathlib.Core.List.{List, [], ◌∷◌}
use mathlib.Core.Logic.{◌⊎◌, ⊎_elim, inl, inr}
use native.Mathlib.Omega.{arith}
use lib.ListN.{length}
use Rattle.machine.specs.declared.Machine.{Machine}
use Rattle.machine.specs.Machine.{frame_words}
use Rattle.mapping.specs.Mapping.{slot_of, rights_of, well_formed}
use Rattle.ledger.specs.Names.{free, space, second_level, data_page, spare, stopped}
use Rattle.ledger.specs.Ledger.{rec}
use Rattle.memory.specs.Memory.{frame}
use Rattle.memory.proofs.Frames.{length-put_word, put_word_same}
use Rattle.walk.specs.Walk.{linked, mapped, slot_word}
use Rattle.walk.proofs.Laws.{Holds, length-linked}
use Rattle.accept.specs.Accept.{Blank, Tables, Accepted}
use Rattle.kept.proofs.Facts.Leaves.{Linked, own_table, mapped_besides}
use Rattle.kept.proofs.Layers.Data.{data_kept}
use Rattle.kept.proofs.Layers.Link.{link_kept}
use Rattle.kept.proofs.Facts.Bridge.{page_in, word_other, is_space, tables_of, accepted}
use Rattle.kept.proofs.Layers.Alloc.{Allocated}

module _ {b : Machine} {M L : List ℕ} (ok : Accepted b M L) {a : ℕ} (al : a < b.pages) (type : rec L a 0 ≡ space)
    (going : rec L a 3 ≡ stopped → ⊥) (p : ℕ) (was : (rec L p 0 ≡ free) ⊎ (rec L p 0 ≡ spare)) where
  none : rec L p 0 ≡ space → ⊥
  none e = ⊎_elim (λ z. omega arith) (λ z. omega arith) was

  plain : Linked (rec L p 0) → ⊥
  plain e = ⊎_elim (λ z. omega arith) (λ z. omega arith) was

  blank : Blank (rec L p 0)
  blank = ⊎_elim (λ z. inl (omega arith)) (λ z. inr z) was

  tables : Tables b (rec L) (frame M) a
  tables = tables_of ok al type going

  pub table_kept : {L' : List ℕ} (i : ℕ) → Allocated b L L' a p (second_level ∷ a ∷ i ∷ []) → i < 256 → frame M (b.secure + rec L a 2) i ≡ 0
      → Accepted b (linked M b.secure (rec L a 2) i p) L'
  unfolding linked
  table_kept i x small empty =
      let f = rec L a 2 in
      accepted ok (length-linked M b.secure f i p) x.size
      (link_kept (is_space ok al type) going none plain blank ok.rules x.turns
      (record {
        new = x.new;
        small = small;
        empty = empty;
        here = put_word_same M (b.secure + f) i (p + 1) (omega (arith, page_in ok f tables.first.below));
        memory = λ q l k kl n. word_other M b.secure f i (p + 1) q k (omega arith) kl n;
      })
      x.header)

  -- p's own memory may be any: N is M but for it
  pub data_page_kept : {L' : List ℕ} (map : ℕ) (N : List ℕ) → Allocated b L L' a p (data_page ∷ a ∷ map ∷ []) → well_formed map ≡ true
      → Holds M b.secure (rec L a 2) map 0 → length N ≡ length M
      → ((q k : ℕ) → (q ≡ p → ⊥) → k < frame_words → frame N (b.secure + q) k ≡ frame M (b.secure + q) k)
      → Accepted b (mapped N b.secure (rec L a 2) map p) L'
  data_page_kept map N x good place size other =
      let T = place.table in
      let v = slot_word (b.secure + p) (rights_of map) in
      rw (mapped_besides N tables plain other place)
      (accepted ok (length-put_word N (b.secure + T) (slot_of map) v ∙ size) x.size
      (data_kept (is_space ok al type) going none plain ok.rules x.turns
      (record {
        new = x.new;
        good = good;
        named = place.named;
        empty = place.slot;
        here = put_word_same N (b.secure + T) (slot_of map) v (omega (arith, size, page_in ok T (own_table tables place).0.below));
        memory = λ q l n k kl nT. word_other N b.secure T (slot_of map) v q k (omega arith) kl nT ∙ other q k n kl;
      })
      x.header))
