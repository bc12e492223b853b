-- A free page, or a's spare page, becomes a data page of a in an empty slot: calls 6 and 36. Assumes nothing.
use Prim.Native.Nat.{ℕ, ◌+◌, ◌<◌}
use mathlib.Core.Path.{◌≡◌, refl, sym, ap, ◌∙◌}
use mathlib.Core.Bool.{true}
use mathlib.Core.List.{[], ◌∷◌}
use mathlib.Core.Logic.{⊎_elim, inl, inr}
use native.Mathlib.Omega.{arith}
use lib.ListN.{get_or}
use Rattle.words.specs.Words.{record_words}
use Rattle.words.proofs.Cases.{same_or}
use Rattle.machine.specs.declared.Machine.{Machine}
use Rattle.machine.specs.Machine.{frame_words}
use Rattle.mapping.specs.Mapping.{index_of, slot_of, rights_of, well_formed}
use Rattle.ledger.specs.Names.{space, second_level, data_page, stopped}
use Rattle.walk.specs.Walk.{slot_word}
use Rattle.accept.specs.Accept.{Words, Is, SlotOk.inside, Tables, HeaderOk, Rules}
use Rattle.kept.proofs.Facts.Layouts.{rest_zero, layout_of}
use Rattle.kept.proofs.Facts.Mappings.{is_well_formed, parts, rights_odd}
use Rattle.kept.proofs.Facts.Leaves.{Linked, not_linked}
use Rattle.kept.proofs.Layers.Turn.{Turns, low_same, is_back, but_table, turn_kept}
use Rattle.kept.proofs.Layers.Fill.{Fills, tables_fill}

-- p's record, and the one slot that changes, in table T
pub record Maps (b : Machine) (w w' m m' : Words) (a p map T : ℕ) : Type 0 where
  pub new : (k : ℕ) → k < record_words → w' p k ≡ get_or (data_page ∷ a ∷ map ∷ []) k 0
  pub good : well_formed map ≡ true
  pub named : m (b.secure + w a 2) (index_of map) ≡ T + 1
  pub empty : m (b.secure + T) (slot_of map) ≡ 0
  pub here : m' (b.secure + T) (slot_of map) ≡ slot_word (b.secure + p) (rights_of map)
  pub memory : (q : ℕ) → q < b.pages → (q ≡ p → ⊥) → (k : ℕ) → k < frame_words → (q ≡ T → k ≡ slot_of map → ⊥)
      → m' (b.secure + q) k ≡ m (b.secure + q) k

module _ {b : Machine} {h : ℕ → ℕ} {w w' m m' : Words} {a p map T : ℕ} (is_space : Is b w a space a) (going : w a 3 ≡ stopped → ⊥)
    (none : w p 0 ≡ space → ⊥) (plain : Linked (w p 0) → ⊥)
    (ok : Rules b h w m) (x : Turns b w w' a p) (y : Maps b w w' m m' a p map T) where
  old : Tables b w m a
  old = (ok.spaces a is_space.below is_space.type).tables going

  table : Is b w a second_level T × (w T 2 ≡ index_of map)
  table = old.names (index_of map) T (omega arith) y.named

  fills : Fills b w w' m m' a T (slot_of map) (slot_word (b.secure + p) (rights_of map))
  fills =
      let good = is_well_formed y.good in
      record {
        table = table.0;
        slot = omega arith;
        was = y.empty;
        here = y.here;
        new =
            inside p (rights_of map) (record { below = x.below; type = y.new 0 (omega arith); own = y.new 1 (omega arith) })
            (y.new 2 (omega arith) ∙ rw table.1 (parts good)) (omega arith) (rights_odd good);
        link = x.low 2 (omega arith);
        on = λ t q l i k kl. low_same is_space x q i.below (not_linked plain l i) k (omega arith);
        back = λ t q l i.
            ⊎_elim
            (λ e.
            let e₂ : w' q 2 ≡ map = rw e (y.new 2 (omega arith)) in
            inr (
              sym i.type ∙ ap (λ (y : ℕ). w' y 0) e ∙ y.new 0 (omega arith),
              record { index = ap index_of e₂ ∙ sym table.1; slot = ap slot_of e₂; value = rw (e₂, e) refl },
            ))
            (λ n. inl (is_back is_space x n i))
            (same_or q p);
        memory = λ t q l i. y.memory q i.below (not_linked plain (omega arith) i);
      }

  pub data_kept : {h' : ℕ → ℕ} → HeaderOk b h' w' → Rules b h' w' m'
  data_kept =
      let e₀ = y.new 0 (omega arith) in
      turn_kept is_space x ok none
      (layout_of e₀ (omega arith) (rw (y.new 2 (omega arith)) y.good, rest_zero (data_page ∷ a ∷ map ∷ []) y.new))
      (λ z. absurd (omega arith))
      (λ z. absurd (⊎_elim (λ l. omega arith) (λ l. omega arith) z))
      (but_table is_space x m m' (omega arith) table.0 y.memory)
      (λ _. tables_fill fills old ok.pages)
