-- The tables of a space where its first-level page and its tables' indices stay: what slots and data pages must then meet. Assumes nothing.
use Prim.Native.Nat.{ℕ, ◌+◌, ◌≤◌, ◌<◌}
use mathlib.Core.Path.{◌≡◌, refl, sym, ap, ◌∙◌}
use mathlib.Core.List.{List}
use native.Mathlib.Omega.{arith}
use Rattle.machine.specs.declared.Machine.{Machine}
use Rattle.machine.specs.Machine.{frame_words}
use Rattle.mapping.specs.Mapping.{index_of, slot_of, rights_of}
use Rattle.ledger.specs.Names.{first_level, second_level, data_page}
use Rattle.memory.specs.Memory.{frame, put_word}
use Rattle.walk.specs.Walk.{mapped, slot_word}
use Rattle.walk.proofs.Laws.{Holds, mapped_table}
use Rattle.accept.specs.Accept.{Words, PageOk, Is, mapping_of, SlotOk, SlotOk.empty, SlotOk.outside, SlotOk.inside, Stands, Tables}

-- a page keeps its type and its owner
pub is_moved : {b : Machine} {w w' : Words} {a t q : ℕ} → Is b w a t q → w' q 0 ≡ w q 0 → w' q 1 ≡ w q 1 → Is b w' a t q
is_moved i e₀ e₁ = record { below = i.below; type = e₀ ∙ i.type; own = e₁ ∙ i.own }

-- pages of two types are two
pub apart : (w : Words) {q q' t t' : ℕ} → w q 0 ≡ t → w q' 0 ≡ t' → (t ≡ t' → ⊥) → q ≡ q' → ⊥
apart w e e' n z = n (sym e ∙ ap (λ (y : ℕ). w y 0) z ∙ e')

-- a slot stays right where the data page that it names stays, with its mapping word
pub slot_moved : {b : Machine} {w w' : Words} {a i j v : ℕ} → SlotOk b w a i j v
    → ((d r : ℕ) → Is b w a data_page d → w d 2 ≡ mapping_of i j r → r < 8 → Is b w' a data_page d × (w' d 2 ≡ w d 2)) → SlotOk b w' a i j v
slot_moved empty on = empty
slot_moved (outside f r x y z) on = outside f r x y z
slot_moved (inside d r x e y z) on = let o = on d r x e y in inside d r o.0 (o.1 ∙ e) y z

-- a data page stands where its mapping word, its table and its slot stay
pub stands_moved : {b : Machine} {w w' m m' : Words} {a d : ℕ} (s : Stands b w m a d) → w' d 2 ≡ w d 2
    → Is b w' a second_level s.table → w' s.table 2 ≡ w s.table 2
    → m' (b.secure + s.table) (slot_of (w d 2)) ≡ m (b.secure + s.table) (slot_of (w d 2)) → Stands b w' m' a d
stands_moved s e i index slot =
    record { table = s.table; is_table = i; index = rw e (index ∙ s.index); slot = rw e (slot ∙ s.slot) }

-- a table's index is below 256
pub index_small : {b : Machine} {w m : Words} {a T : ℕ} → ((p : ℕ) → p < b.pages → PageOk b w m p) → Is b w a second_level T → w T 2 < 256
index_small {T = T} pages i = ((pages T i.below).layout.is_second i.type).0

-- the table that holds the slot of an address is the space's own
pub own_table : {b : Machine} {w : Words} {M : List ℕ} {a va v : ℕ} → Tables b w (frame M) a → (h : Holds M b.secure (w a 2) va v)
    → Is b w a second_level h.table × (w h.table 2 ≡ index_of va)
own_table {va = va} old h = old.names (index_of va) h.table (omega arith) h.named

-- a data page's slot holds it
abbrev pub stood : {b : Machine} {w : Words} {M : List ℕ} {a d : ℕ} → Tables b w (frame M) a → Is b w a data_page d
    → Holds M b.secure (w a 2) (w d 2) (slot_word (b.secure + d) (rights_of (w d 2)))
stood {b} {w} {M} {a} {d} old i =
    let s = old.stands d i in
    record {
      table = s.table;
      named = ap (frame M (b.secure + w a 2)) (sym s.index) ∙ old.named s.table s.is_table;
      slot = s.slot;
    }

-- first-level and second-level tables; and these with data pages
abbrev pub Table : ℕ → Type 0
Table t = (first_level ≤ t) × (t ≤ second_level)

abbrev pub Linked : ℕ → Type 0
Linked t = (first_level ≤ t) × (t ≤ data_page)

-- a page that is no table and no data page is none of these
pub not_linked : {b : Machine} {w : Words} {a t q p : ℕ} → (Linked (w p 0) → ⊥) → Linked t → Is b w a t q → q ≡ p → ⊥
not_linked {w = w} none l i = apart w i.type refl (λ z. none (omega arith))

-- such a page p is mapped, in a memory N that is M but for p: the slot's table is M's
pub mapped_besides : {b : Machine} {w : Words} {M : List ℕ} (N : List ℕ) {a p map v : ℕ} → Tables b w (frame M) a → (Linked (w p 0) → ⊥)
    → ((q k : ℕ) → (q ≡ p → ⊥) → k < frame_words → frame N (b.secure + q) k ≡ frame M (b.secure + q) k)
    → (h : Holds M b.secure (w a 2) map v)
    → mapped N b.secure (w a 2) map p ≡ put_word N (b.secure + h.table) (slot_of map) (slot_word (b.secure + p) (rights_of map))
mapped_besides {b} {w} N {a} {p} {map} old plain other h =
    mapped_table N b.secure (w a 2) map p h.table
    (other (w a 2) (index_of map) (not_linked plain (omega arith) old.first) (omega arith) ∙ h.named)

pub leaves : {b : Machine} {w w' m m' : Words} {a : ℕ} → Tables b w m a
    → ((p : ℕ) → p < b.pages → PageOk b w m p)
    → ((t q : ℕ) → Table t → Is b w a t q → (k : ℕ) → k < 3 → w' q k ≡ w q k)
    → ((t q : ℕ) → Table t → Is b w' a t q → Is b w a t q)
    → w' a 2 ≡ w a 2
    → ((k : ℕ) → k < frame_words → m' (b.secure + w a 2) k ≡ m (b.secure + w a 2) k)
    → ((T j : ℕ) → Is b w a second_level T → j < frame_words → SlotOk b w' a (w T 2) j (m' (b.secure + T) j))
    → ((d : ℕ) → Is b w' a data_page d → Stands b w' m' a d)
    → Tables b w' m' a
leaves {b} {w} {w'} {m} {m'} {a} old pages on back link first slots stands =
    record {
      first = rw link (is_on first_level (w a 2) (omega arith) old.first);
      only = λ q i. old.only q (back first_level q (omega arith) i) ∙ sym link;
      names = λ i T l e.
          let x = old.names i T l (sym (first_same i (omega arith)) ∙ e) in
          (is_on second_level T (omega arith) x.0, on second_level T (omega arith) x.0 2 (omega arith) ∙ x.1);
      named = λ T i.
          let x = back second_level T (omega arith) i in
          let l = index_small pages x in
          rw (on second_level T (omega arith) x 2 (omega arith)) (first_same (w T 2) (omega arith) ∙ old.named T x);
      rest = λ k l u. first_same k u ∙ old.rest k l u;
      slots = λ T j i l.
          let x = back second_level T (omega arith) i in
          rw (on second_level T (omega arith) x 2 (omega arith)) (slots T j x l);
      stands = stands;
    }
  where
    is_on : (t q : ℕ) → Table t → Is b w a t q → Is b w' a t q
    is_on t q l i = is_moved i (on t q l i 0 (omega arith)) (on t q l i 1 (omega arith))

    first_same : (i : ℕ) → i < frame_words → m' (b.secure + w' a 2) i ≡ m (b.secure + w a 2) i
    first_same i l = rw link (first i l)
