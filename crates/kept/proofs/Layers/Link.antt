-- A free page, or a's spare page, becomes a table of a under an empty first-level slot: calls 4 and 35. Assumes nothing.
use Prim.Native.Nat.{ℕ, ◌+◌, ◌<◌}
use mathlib.Core.Path.{◌≡◌, sym, ap, ◌∙◌}
use mathlib.Core.List.{[], ◌∷◌}
use mathlib.Core.Logic.{⊎_elim}
use native.Mathlib.Omega.{arith}
use lib.ListN.{get_or}
use Rattle.words.specs.Words.{record_words}
use Rattle.words.proofs.Cases.{same_or}
use Rattle.machine.specs.declared.Machine.{Machine}
use Rattle.machine.specs.Machine.{frame_words}
use Rattle.mapping.specs.Mapping.{slot_of}
use Rattle.ledger.specs.Names.{space, first_level, second_level, data_page, stopped}
use Rattle.accept.specs.Accept.{Words, Blank, Is, SlotOk.empty, Stands, Tables, HeaderOk, Rules}
use Rattle.kept.proofs.Facts.Layouts.{rest_zero, layout_of}
use Rattle.kept.proofs.Facts.Leaves.{Linked, apart, not_linked, slot_moved, stands_moved}
use Rattle.kept.proofs.Layers.Turn.{Turns, low_same, is_on, is_back, but_table, turn_kept}

-- p's record, and the one first-level slot that changes
pub record Links (b : Machine) (w w' m m' : Words) (a p i : ℕ) : Type 0 where
  pub new : (k : ℕ) → k < record_words → w' p k ≡ get_or (second_level ∷ a ∷ i ∷ []) k 0
  pub small : i < 256
  pub empty : m (b.secure + w a 2) i ≡ 0
  pub here : m' (b.secure + w a 2) i ≡ p + 1
  pub memory : (q : ℕ) → q < b.pages → (k : ℕ) → k < frame_words → (q ≡ w a 2 → k ≡ i → ⊥) → m' (b.secure + q) k ≡ m (b.secure + q) k

module _ {b : Machine} {h : ℕ → ℕ} {w w' m m' : Words} {a p i : ℕ} (is_space : Is b w a space a) (going : w a 3 ≡ stopped → ⊥)
    (none : w p 0 ≡ space → ⊥) (plain : Linked (w p 0) → ⊥) (blank : Blank (w p 0))
    (ok : Rules b h w m) (x : Turns b w w' a p) (y : Links b w w' m m' a p i) where
  old : Tables b w m a
  old = (ok.spaces a is_space.below is_space.type).tables going

  on : (t q : ℕ) → Linked t → Is b w a t q → Is b w' a t q × (w' q 2 ≡ w q 2)
  on t q l i =
      let n = not_linked plain l i in
      (is_on is_space x n i, low_same is_space x q i.below n 2 (omega arith))

  back : (t q : ℕ) → (t ≡ second_level → ⊥) → Is b w' a t q → Is b w a t q
  back t q n j = is_back is_space x (apart w' j.type (y.new 0 (omega arith)) n) j

  -- the tables below the first-level page stay
  same : (T : ℕ) → Is b w a second_level T → (k : ℕ) → k < frame_words → m' (b.secure + T) k ≡ m (b.secure + T) k
  same T j k kl = y.memory T j.below k kl (λ e _. apart w j.type old.first.type (λ z. omega arith) e)

  first_same : (k : ℕ) → k < frame_words → (k ≡ i → ⊥) → m' (b.secure + w' a 2) k ≡ m (b.secure + w a 2) k
  first_same k l n = rw (x.low 2 (omega arith)) (y.memory (w a 2) old.first.below k l (λ _. n))

  here : m' (b.secure + w' a 2) i ≡ p + 1
  here = rw (x.low 2 (omega arith)) y.here

  is_table : Is b w' a second_level p
  is_table = record { below = x.below; type = y.new 0 (omega arith); own = y.new 1 (omega arith) }

  -- p's memory, zero before, is zero after
  zero_p : (k : ℕ) → k < frame_words → m' (b.secure + p) k ≡ 0
  zero_p k l =
      y.memory p x.below k l (λ e _. not_linked plain (omega arith) old.first (sym e))
      ∙ (ok.pages p x.below).blank blank k (omega arith) l

  stand : (d : ℕ) → Is b w a data_page d → Stands b w' m' a d
  stand d j =
      let s = old.stands d j in
      let T = on second_level s.table (omega arith) s.is_table in
      stands_moved s (on data_page d (omega arith) j).1 T.0 T.1
      (same s.table s.is_table (slot_of (w d 2)) (omega arith))

  tables : Tables b w' m' a
  tables =
      record {
        first = rw (x.low 2 (omega arith)) (on first_level (w a 2) (omega arith) old.first).0;
        only = λ q j. old.only q (back first_level q (λ z. omega arith) j) ∙ sym (x.low 2 (omega arith));
        names = λ k T l e.
            ⊎_elim
            (λ (ek : k ≡ i).
            let eT : p ≡ T = omega (arith, here, ap (m' (b.secure + w' a 2)) ek) in
            rw (← eT) (is_table, y.new 2 (omega arith) ∙ sym ek))
            (λ nk.
            let o = old.names k T l (sym (first_same k (omega arith) nk) ∙ e) in
            let n = on second_level T (omega arith) o.0 in
            (n.0, n.1 ∙ o.1))
            (same_or k i);
        named = λ T j.
            ⊎_elim
            (λ e. rw e (rw (y.new 2 (omega arith)) here))
            (λ n.
            let o = is_back is_space x n j in
            let l = ((ok.pages T o.below).layout.is_second o.type).0 in
            let t = old.named T o in
            rw (on second_level T (omega arith) o).1
            (first_same (w T 2) (omega arith) (λ e. omega (arith, y.empty, ap (m (b.secure + w a 2)) e)) ∙ t))
            (same_or T p);
        rest = λ k lo hi. first_same k hi (λ e. omega (arith, y.small)) ∙ old.rest k lo hi;
        slots = λ T k j l.
            ⊎_elim
            (λ e. rw e (rw (zero_p k l) empty))
            (λ n.
            let o = is_back is_space x n j in
            rw ((on second_level T (omega arith) o).1, same T o k l)
            (slot_moved (old.slots T k o l) (λ d r i e y. on data_page d (omega arith) i)))
            (same_or T p);
        stands = λ d j. stand d (back data_page d (λ z. omega arith) j);
      }

  pub link_kept : {h' : ℕ → ℕ} → HeaderOk b h' w' → Rules b h' w' m'
  link_kept =
      let e₀ = y.new 0 (omega arith) in
      turn_kept is_space x ok none
      (layout_of e₀ (omega arith) (rw (y.new 2 (omega arith)) y.small, rest_zero (second_level ∷ a ∷ i ∷ []) y.new))
      (λ z. absurd (omega arith))
      (λ z. absurd (⊎_elim (λ l. omega arith) (λ l. omega arith) z))
      (but_table is_space x m m' (omega arith) old.first (λ q l _. y.memory q l))
      (λ _. tables)
