-- A data page of a becomes its spare page, and its slot is emptied: call 37. Assumes nothing.
use Prim.Native.Nat.{ℕ, ◌+◌, ◌<◌}
use mathlib.Core.Path.{◌≡◌, sym, ap, ◌∙◌}
use mathlib.Core.List.{[], ◌∷◌}
use native.Mathlib.Omega.{arith}
use lib.ListN.{get_or}
use Rattle.words.specs.Words.{record_words}
use Rattle.words.proofs.Cases.{both_or}
use Rattle.machine.specs.declared.Machine.{Machine}
use Rattle.machine.specs.Machine.{frame_words}
use Rattle.mapping.specs.Mapping.{index_of, slot_of}
use Rattle.ledger.specs.Names.{space, first_level, second_level, data_page, spare}
use Rattle.accept.specs.Accept.{Words, Is, mapping_of, SlotOk, SlotOk.empty, Stands, Tables, HeaderOk, Rules}
use Rattle.kept.proofs.Facts.Layouts.{rest_zero, layout_of}
use Rattle.kept.proofs.Facts.Mappings.{parts_index, parts_slot}
use Rattle.kept.proofs.Facts.Leaves.{Table, index_small, slot_moved, stands_moved, leaves, apart}
use Rattle.kept.proofs.Layers.Turn.{Turns, low_same, is_on, is_back, but_table, turn_kept}

-- p's record and memory, and the one slot that changes, in the table T where p stands
pub record Unmaps (b : Machine) (w w' m m' : Words) (a p T : ℕ) : Type 0 where
  pub new : (k : ℕ) → k < record_words → w' p k ≡ get_or (spare ∷ a ∷ []) k 0
  pub blank : (k : ℕ) → k < frame_words → m' (b.secure + p) k ≡ 0
  pub here : m' (b.secure + T) (slot_of (w p 2)) ≡ 0
  pub memory : (q : ℕ) → q < b.pages → (q ≡ p → ⊥) → (k : ℕ) → k < frame_words → (q ≡ T → k ≡ slot_of (w p 2) → ⊥)
      → m' (b.secure + q) k ≡ m (b.secure + q) k

module _ {b : Machine} {h : ℕ → ℕ} {w w' m m' : Words} {a p : ℕ} (sp : Is b w a space a) (old : Tables b w m a)
    (is_data : Is b w a data_page p) (ok : Rules b h w m) (x : Turns b w w' a p)
    (stood : Stands b w m a p) (y : Unmaps b w w' m m' a p stood.table) where
  not_p : (t q : ℕ) → Table t → Is b w a t q → q ≡ p → ⊥
  not_p t q l i = apart w i.type is_data.type (λ z. omega arith)

  -- p is no data page now
  was_other : (t q : ℕ) → (t ≡ spare → ⊥) → Is b w' a t q → q ≡ p → ⊥
  was_other t q n i = apart w' i.type (y.new 0 (omega arith)) n

  on : (d : ℕ) → (d ≡ p → ⊥) → Is b w a data_page d → Is b w' a data_page d × (w' d 2 ≡ w d 2)
  on d n i = (is_on sp x n i, low_same sp x d i.below n 2 (omega arith))

  -- no other slot names p, whose mapping word names this one
  not_named : (T k r : ℕ) → Is b w a second_level T → k < frame_words → r < 8 → w p 2 ≡ mapping_of (w T 2) k r
      → (T ≡ stood.table → k ≡ slot_of (w p 2) → ⊥) → ⊥
  not_named T k r i l rl e n =
      let s = stood in
      let ei : w s.table 2 ≡ w T 2 = s.index ∙ ap index_of e ∙ parts_index (w T 2) k r (index_small ok.pages i) l rl in
      let eT = sym (old.named T i) ∙ ap (m (b.secure + w a 2)) (sym ei) ∙ old.named s.table s.is_table in
      n (omega arith) (sym (parts_slot (w T 2) k r l rl) ∙ sym (ap slot_of e))

  slot_at : (T k : ℕ) → Is b w a second_level T → k < frame_words → SlotOk b w' a (w T 2) k (m' (b.secure + T) k)
  slot_at T k i l =
      both_or T stood.table k (slot_of (w p 2))
      (λ eT ek.
      let z : m' (b.secure + T) k ≡ 0 = ap (λ (q : ℕ). m' (b.secure + q) k) eT ∙ ap (m' (b.secure + stood.table)) ek ∙ y.here in
      rw z empty)
      (λ n.
      rw (y.memory T i.below (not_p second_level T (omega arith) i) k l n)
      (slot_moved (old.slots T k i l)
      (λ d r j e rl. on d (λ ed. not_named T k r i l rl (sym (ap (λ (q : ℕ). w q 2) ed) ∙ e) n) j)))

  stand : (d : ℕ) → (d ≡ p → ⊥) → Is b w a data_page d → Stands b w' m' a d
  stand d n i =
      let s = old.stands d i in
      let o = stood in
      let np = not_p second_level s.table (omega arith) s.is_table in
      stands_moved s (on d n i).1 (is_on sp x np s.is_table) (low_same sp x s.table s.is_table.below np 2 (omega arith))
      (y.memory s.table s.is_table.below np (slot_of (w d 2)) (omega arith)
      (λ eT ek.
      let z = sym s.slot ∙ ap (λ (q : ℕ). m (b.secure + q) (slot_of (w d 2))) eT ∙ ap (m (b.secure + o.table)) ek ∙ o.slot in
      n (omega arith)))

  tables : Tables b w' m' a
  tables =
      leaves old ok.pages
      (λ t q l i k kl. low_same sp x q i.below (not_p t q l i) k (omega arith))
      (λ t q l i. is_back sp x (was_other t q (λ z. omega arith) i) i)
      (x.low 2 (omega arith))
      (λ k l.
      y.memory (w a 2) old.first.below (not_p first_level (w a 2) (omega arith) old.first) k l
      (λ e _. apart w old.first.type stood.is_table.type (λ z. omega arith) e))
      slot_at
      (λ d i. let n = was_other data_page d (λ z. omega arith) i in stand d n (is_back sp x n i))

  pub empty_kept : {h' : ℕ → ℕ} → HeaderOk b h' w' → Rules b h' w' m'
  empty_kept =
      let e₀ = y.new 0 (omega arith) in
      turn_kept sp x ok (λ z. omega (arith, is_data.type)) (layout_of e₀ (omega arith) (rest_zero (spare ∷ a ∷ []) y.new))
      (λ z. absurd (omega arith))
      (λ _ k lo hi. y.blank k hi)
      (but_table sp x m m' (omega arith) stood.is_table y.memory)
      (λ _. tables)
