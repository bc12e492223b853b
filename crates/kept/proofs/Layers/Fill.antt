-- An empty slot of a space's table is filled, with an insecure frame or with a data page that is new: calls 6, 7 and 36. Assumes nothing.
use Prim.Native.Nat.{ℕ, ◌+◌, ◌<◌}
use mathlib.Core.Path.{◌≡◌, refl, sym, ap, ◌∙◌}
use mathlib.Core.Logic.{◌⊎◌, ⊎_elim, inl, inr}
use native.Mathlib.Omega.{arith}
use Rattle.words.proofs.Cases.{same_or, both_or}
use Rattle.machine.specs.declared.Machine.{Machine}
use Rattle.machine.specs.Machine.{frame_words}
use Rattle.mapping.specs.Mapping.{index_of, slot_of, rights_of}
use Rattle.ledger.specs.Names.{space, first_level, second_level, data_page, stopped}
use Rattle.walk.specs.Walk.{slot_word}
use Rattle.accept.specs.Accept.{Words, PageOk, Is, SlotOk, Stands, Tables, Rules}
use Rattle.kept.proofs.Facts.Mappings.{is_well_formed}
use Rattle.kept.proofs.Facts.Leaves.{Table, Linked, apart, is_moved, slot_moved, stands_moved, leaves}
use Rattle.kept.proofs.Layers.Frame.{Step, step_kept}

-- the mapping word x has index i and slot j, and its slot names frame f as v
pub record Names (x i j f v : ℕ) : Type 0 where
  pub index : index_of x ≡ i
  pub slot : slot_of x ≡ j
  pub value : v ≡ slot_word f (rights_of x)

-- slot j of table T, empty, gets v; no other table, index or data page of a changes
pub record Fills (b : Machine) (w w' m m' : Words) (a T j v : ℕ) : Type 0 where
  pub table : Is b w a second_level T
  pub slot : j < frame_words
  pub was : m (b.secure + T) j ≡ 0
  pub here : m' (b.secure + T) j ≡ v
  pub new : SlotOk b w' a (w T 2) j v
  pub link : w' a 2 ≡ w a 2
  pub on : (t q : ℕ) → Linked t → Is b w a t q → (k : ℕ) → k < 3 → w' q k ≡ w q k
  pub back : (t q : ℕ) → Linked t → Is b w' a t q → Is b w a t q ⊎ ((t ≡ data_page) × Names (w' q 2) (w T 2) j (b.secure + q) v)
  pub memory : (t q : ℕ) → Table t → Is b w a t q → (k : ℕ) → k < frame_words → (q ≡ T → k ≡ j → ⊥) → m' (b.secure + q) k ≡ m (b.secure + q) k

module _ {b : Machine} {w w' m m' : Words} {a T j v : ℕ} (x : Fills b w w' m m' a T j v)
    (old : Tables b w m a) (pages : (p : ℕ) → p < b.pages → PageOk b w m p) where
  is_on : (t q : ℕ) → Linked t → Is b w a t q → Is b w' a t q
  is_on t q l i = is_moved i (x.on t q l i 0 (omega arith)) (x.on t q l i 1 (omega arith))

  slot_at : (T' k : ℕ) → Is b w a second_level T' → k < frame_words → SlotOk b w' a (w T' 2) k (m' (b.secure + T') k)
  slot_at T' k i l =
      both_or T' T k j (λ eT ek. rw eT (rw ek (rw x.here x.new)))
      (λ n.
      rw (x.memory second_level T' (omega arith) i k l n)
      (slot_moved (old.slots T' k i l)
      (λ d r i e y. (is_on data_page d (omega arith) i, x.on data_page d (omega arith) i 2 (omega arith)))))

  stand_old : (d : ℕ) → Is b w a data_page d → Stands b w' m' a d
  stand_old d i =
      let s = old.stands d i in
      let odd = (is_well_formed ((pages d i.below).layout.is_data i.type).0).reads in
      stands_moved s (x.on data_page d (omega arith) i 2 (omega arith)) (is_on second_level s.table (omega arith) s.is_table)
      (x.on second_level s.table (omega arith) s.is_table 2 (omega arith))
      (x.memory second_level s.table (omega arith) s.is_table (slot_of (w d 2)) (omega arith)
      (λ eT ek. let z : m (b.secure + s.table) (slot_of (w d 2)) ≡ 0 = rw (eT, ek) x.was in omega (arith, s.slot)))

  stand_new : (d : ℕ) → Names (w' d 2) (w T 2) j (b.secure + d) v → Stands b w' m' a d
  stand_new d s =
      record {
        table = T;
        is_table = is_on second_level T (omega arith) x.table;
        index = x.on second_level T (omega arith) x.table 2 (omega arith) ∙ sym s.index;
        slot = ap (m' (b.secure + T)) s.slot ∙ x.here ∙ s.value;
      }

  pub tables_fill : Tables b w' m' a
  tables_fill =
      leaves old pages (λ t q l i. x.on t q (omega arith) i)
      (λ t q l i. ⊎_elim (λ o. o) (λ o. absurd (omega (arith, o.0))) (x.back t q (omega arith) i))
      x.link
      (λ k l.
      x.memory first_level (w a 2) (omega arith) old.first k l
      (λ e _. apart w old.first.type x.table.type (λ z. omega arith) e))
      slot_at
      (λ d i. ⊎_elim (λ o. stand_old d o) (λ o. stand_new d o.1) (x.back data_page d (omega arith) i))

-- ---- a slot of a's is filled, and nothing else changes: call 7
module _ {b : Machine} {h : ℕ → ℕ} {w m m' : Words} {a T j v : ℕ} (sp : Is b w a space a) (going : w a 3 ≡ stopped → ⊥) (ok : Rules b h w m)
    (x : Fills b w w m m' a T j v) (others : (q : ℕ) → (q ≡ T → ⊥) → (k : ℕ) → k < frame_words → m' (b.secure + q) k ≡ m (b.secure + q) k) where
  page : PageOk b w m' T
  page =
      let o = ok.pages T x.table.below in
      let e = x.table.type in
      record { layout = o.layout; owner = o.owner; idle = o.idle; blank = λ t. absurd (⊎_elim (λ l. omega arith) (λ l. omega arith) t) }

  step : Step b w w m m' a
  step =
      record {
        each = λ q l.
            ⊎_elim (λ e. rw e (inr (inr x.table.own, inr x.table.own, page)))
            (λ n. inl (record { words = λ k kl. refl; memory = others q n })) (same_or q T);
        alive = λ q l nz e. sp.type;
        self = λ e.
            let s = ok.spaces a sp.below sp.type in
            record { count = s.count; blocks = s.blocks; calm = s.calm; room = s.room; tables = λ nz. tables_fill x (s.tables nz) ok.pages };
      }

  pub slot_kept : Rules b h w m'
  slot_kept = step_kept step ok ok.header
