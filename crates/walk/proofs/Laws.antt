-- The walk from a first-level page in terms of the memory's view, and what is found, filled and translated by it. Assumes nothing.
use Prim.Native.Nat.{ℕ, zero, suc, ◌+◌, ◌/◌, ◌%◌, ◌^◌, ◌<◌}
use mathlib.Core.Path.{◌≡◌, refl, sym, ap, ◌∙◌}
use mathlib.Core.Bool.{Bool, true, false, not, ◌&&◌}
use mathlib.Core.List.{List}
use mathlib.Core.Option.{some, none}
use Rattle.std.specs.Prelude.{Option, Some, None}
use native.Mathlib.Numerals.{add-one}
use native.Mathlib.Omega.{arith}
use lib.Dec.{eqb, leb}
use lib.ListN.{length}
use borrow.Author.Tests.{eq-eqb, ne_eqb, lt-leb, leb-false, eqb-true, eqb-false, not-false}
use Rattle.words.specs.Words.{pick}
use Rattle.mapping.specs.Mapping.{page_bytes, index_of, slot_of, rights_of, writes}
use Rattle.memory.specs.Memory.{frame, put_word}
use Rattle.memory.proofs.Frames.{length-put_word}
use Rattle.walk.specs.declared.Slot.{Slot}
use Rattle.walk.specs.Walk.{walk, allowed, translate, slot_in, slot_for, filled, slot_word, mapped, linked}

-- the address has a table, and its slot there holds v
pub record Holds (M : List ℕ) (s first va v : ℕ) : Type 0 where
  pub table : ℕ
  pub named : frame M (s + first) (index_of va) ≡ table + 1
  pub slot : frame M (s + table) (slot_of va) ≡ v

same_index : (v map : ℕ) → v / page_bytes ≡ map / page_bytes → index_of v ≡ index_of map
same_index v map e = omega arith

same_slot : (v map : ℕ) → v / page_bytes ≡ map / page_bytes → slot_of v ≡ slot_of map
same_slot v map e = omega arith

module _ {M : List ℕ} {s first : ℕ} where
  -- the addresses of one page have one slot, and what it holds is one word
  pub on_page : {map x : ℕ} (v : ℕ) → v / page_bytes ≡ map / page_bytes → Holds M s first map x → Holds M s first v x
  on_page {map} v e h =
      record { table = h.table; named = rw (same_index v map e) h.named; slot = rw (same_slot v map e) h.slot }

  pub one_word : {v x y : ℕ} → Holds M s first v x → Holds M s first v y → x ≡ y
  one_word {v} h g =
      let same : h.table ≡ g.table = omega (arith, h.named, g.named) in
      sym h.slot ∙ ap (λ (T : ℕ). frame M (s + T) (slot_of v)) same ∙ g.slot

-- ---- the walk: the first-level word is 0, or names a table
module _ (M : List ℕ) (s first va : ℕ) where
  pub walk_nothing : frame M (s + first) (index_of va) ≡ 0 → walk 2 M s first va ≡ None
  unfolding walk
  walk_nothing e = rw e

  pub walk_table : (T : ℕ) → frame M (s + first) (index_of va) ≡ T + 1
      → walk 2 M s first va ≡ Some (record { table = T; word = frame M (s + T) (slot_of va) })
  unfolding walk
  walk_table T e = rw (e ∙ add-one T)

  -- by the first-level word
  pub by_word {ℓ} : {C : Type ℓ} → (frame M (s + first) (index_of va) ≡ 0 → C) → ((T : ℕ) → frame M (s + first) (index_of va) ≡ T + 1 → C) → C
  by_word {C = C} nothing named = go (frame M (s + first) (index_of va)) refl
    where
      go : (w : ℕ) → frame M (s + first) (index_of va) ≡ w → C
      go zero e = nothing e
      go (suc T) e = named T (e ∙ sym (add-one T))

  pub walked_at : {x : Slot} → walk 2 M s first va ≡ Some x
      → (frame M (s + first) (index_of va) ≡ x.table + 1) × (frame M (s + x.table) (slot_of va) ≡ x.word)
  walked_at e = by_word (λ z. (cc (walk_nothing z), cc (walk_nothing z))) (λ U t. (cc (walk_table U t), cc (walk_table U t)))

  pub walk_holds : {v : ℕ} (h : Holds M s first va v) → walk 2 M s first va ≡ Some (record { table = h.table; word = v })
  walk_holds h = walk_table h.table h.named ∙ ap (λ (w : ℕ). Some (record { table = h.table; word = w })) h.slot

-- two memories that agree on the first-level word and on the slot's word
pub walk_same : (M N : List ℕ) (s first va : ℕ) → frame N (s + first) (index_of va) ≡ frame M (s + first) (index_of va)
    → ((T : ℕ) → frame M (s + first) (index_of va) ≡ T + 1 → frame N (s + T) (slot_of va) ≡ frame M (s + T) (slot_of va))
    → walk 2 N s first va ≡ walk 2 M s first va
walk_same M N s first va e h =
    by_word M s first va (λ z. walk_nothing N s first va (e ∙ z) ∙ sym (walk_nothing M s first va z))
    (λ T t. walk_table N s first va T (e ∙ t) ∙ ap (λ (w : ℕ). Some (record { table = T; word = w })) (h T t) ∙ sym (walk_table M s first va T t))

-- ---- a slot filled
module _ (M : List ℕ) (s first va v : ℕ) where
  pub filled_nothing : walk 2 M s first va ≡ None → filled M s first va v ≡ M
  unfolding filled
  filled_nothing e = rw e

  pub filled_at : {x : Slot} → walk 2 M s first va ≡ Some x → filled M s first va v ≡ put_word M (s + x.table) (slot_of va) v
  unfolding filled
  filled_at e = rw e

  pub filled_table : (T : ℕ) → frame M (s + first) (index_of va) ≡ T + 1 → filled M s first va v ≡ put_word M (s + T) (slot_of va) v
  filled_table T e = filled_at (walk_table M s first va T e)

  pub length-filled : length (filled M s first va v) ≡ length M
  length-filled =
      by_word M s first va (λ z. ap length (filled_nothing (walk_nothing M s first va z)))
      (λ T t. ap length (filled_table T t) ∙ length-put_word M (s + T) (slot_of va) v)

pub mapped_table : (M : List ℕ) (s first map p T : ℕ) → frame M (s + first) (index_of map) ≡ T + 1
    → mapped M s first map p ≡ put_word M (s + T) (slot_of map) (slot_word (s + p) (rights_of map))
unfolding mapped
mapped_table M s first map p = filled_table M s first map (slot_word (s + p) (rights_of map))

-- ---- a table linked
module _ (M : List ℕ) (s f i p : ℕ) where
  pub linked_is : linked M s f i p ≡ put_word M (s + f) i (p + 1)
  unfolding linked
  linked_is = refl

  pub length-linked : length (linked M s f i p) ≡ length M
  unfolding linked
  length-linked = length-put_word M (s + f) i (p + 1)

-- ---- what is translated
pub record Translates (M : List ℕ) (s first va : ℕ) (write : Bool) (v : ℕ) : Type 0 where
  pub aligned : va % 4 ≡ 0
  pub low : va < 2 ^ 30
  pub holds : Holds M s first va v
  pub taken : v ≡ 0 → ⊥
  pub right : write ≡ true → writes v ≡ true

pick_yes : (t : Bool) {x : Option ℕ} {v : ℕ} → pick t None x ≡ Some v → (t ≡ false) × (x ≡ Some v)
pick_yes true e = absurd (let z : ◌≡◌ {A = ℕ} 0 1 = cc in omega arith)
pick_yes false e = (refl, e)

writes_too : (write w : Bool) → (write && not w) ≡ false → write ≡ true → w ≡ true
writes_too true w e t = not-false w e
writes_too false w e t = absurd (let z : ◌≡◌ {A = ℕ} 0 1 = cc in omega arith)

module _ (M : List ℕ) (s first va : ℕ) (write : Bool) where
  pub through : va % 4 ≡ 0 → va < 2 ^ 30 → translate M s first va write ≡ allowed write (walk 2 M s first va)
  unfolding translate
  through a l = rw (eq-eqb (va % 4) 0 a, lt-leb (2 ^ 30) va l)

  pub translated : {v : ℕ} → translate M s first va write ≡ Some v → Translates M s first va write v
  unfolding translate
  translated {v} e =
      let x = pick_yes (not (eqb (va % 4) 0)) e in
      let y = pick_yes (leb (2 ^ 30) va) x.1 in
      go (walk 2 M s first va) refl (eqb-true (va % 4) 0 (not-false (eqb (va % 4) 0) x.0)) (leb-false (2 ^ 30) va y.0) y.1
    where
      go : (W : Option Slot) → walk 2 M s first va ≡ W → va % 4 ≡ 0 → va < 2 ^ 30 → allowed write W ≡ Some v → Translates M s first va write v
      go None w a l p = absurd (let z : ◌≡◌ {A = ℕ} 0 1 = cc in omega arith)
      go (Some sl) w a l p =
          let u = sl.word in
          let x = pick_yes (eqb u 0) p in
          let y = pick_yes (write && not (writes u)) x.1 in
          let e : u ≡ v = cc in
          let h = walked_at M s first va w in
          record {
            aligned = a;
            low = l;
            holds = record { table = sl.table; named = h.0; slot = h.1 ∙ e };
            taken = λ z. eqb-false u 0 x.0 (e ∙ z);
            right = λ t. ap writes (sym e) ∙ writes_too write (writes u) y.0 t;
          }

  pub translates : {v : ℕ} → Translates M s first va write v → translate M s first va write ≡ Some v
  translates {v} h =
      through h.aligned h.low
      ∙ ap (allowed write) (walk_holds M s first va h.holds)
      ∙ rw (ne_eqb v 0 h.taken) (go write h.right)
    where
      go : (r : Bool) → (r ≡ true → writes v ≡ true) → pick (r && not (writes v)) None (Some v) ≡ Some v
      go true f = rw (f refl)
      go false f = refl

  -- by what an access is translated to
  pub by-slot {ℓ} : {C : Type ℓ} → (translate M s first va write ≡ None → C) → ((v : ℕ) → translate M s first va write ≡ Some v → C) → C
  by-slot {C = C} refuses gives = go (translate M s first va write) refl
    where
      go : (t : Option ℕ) → translate M s first va write ≡ t → C
      go None e = refuses e
      go (Some v) e = gives v e

-- ---- what is found is what is translated
module _ {M : List ℕ} {s first va : ℕ} {write : Bool} where
  pub finds : {v : ℕ} → Translates M s first va write v → slot_for M s first va write ≡ some v
  unfolding slot_for
  finds h = ap slot_in (translates M s first va write h)

  pub found : {v : ℕ} → slot_for M s first va write ≡ some v → Translates M s first va write v
  unfolding slot_for
  found {v} e = translated M s first va write (go (translate M s first va write) e)
    where
      go : (t : Option ℕ) → slot_in t ≡ some v → t ≡ Some v
      go None e = absurd (let z : ◌≡◌ {A = ℕ} 0 1 = cc in omega arith)
      go (Some u) e = cc

  pub finds_none : ((v : ℕ) → Translates M s first va write v → ⊥) → slot_for M s first va write ≡ none
  unfolding slot_for
  finds_none never = by-slot M s first va write (ap slot_in) (λ v e. absurd (never v (translated M s first va write e)))
