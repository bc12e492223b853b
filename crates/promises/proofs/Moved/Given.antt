-- A page given to a space: what calls 3 to 6 and 35 to 37 have in common. Assumes nothing.
use Prim.Native.Nat.{ℕ, ◌<◌}
use mathlib.Core.Path.{◌≡◌, refl}
use mathlib.Core.List.{List, ◌∷◌}
use mathlib.Core.Logic.{inl}
use native.Mathlib.Omega.{arith}
use Rattle.machine.specs.declared.Machine.{Machine}
use Rattle.ledger.specs.Names.{space}
use Rattle.ledger.specs.Ledger.{rec}
use Rattle.answer.specs.Answer.{owner}
use Rattle.accept.specs.Accept.{Is}
use Rattle.kept.proofs.Facts.Leaves.{Table, is_moved, apart}
use Rattle.promises.proofs.Moves.{Same, New, Making, Turning}

-- page p has the words vs; of space a's record the first four words stay, and every other page's record
pub record Given (b : Machine) (L L' : List ℕ) (a p : ℕ) (vs : List ℕ) : Type 0 where
  pub below : p < b.pages
  pub is_space : rec L a 0 ≡ space
  pub new : New L' p vs
  pub low : (k : ℕ) → k < 4 → rec L' a k ≡ rec L a k
  pub others : (q : ℕ) → (q ≡ a → ⊥) → (q ≡ p → ⊥) → Same L L' q

module _ {b : Machine} {L L' : List ℕ} {p : ℕ} {vs : List ℕ} where
  pub made : {a k : ℕ} {h : List ℕ} → Making b L L' a p vs k h → Given b L L' a p vs
  made x =
      record { below = x.p_below; is_space = x.is_space; new = x.new; low = λ k l. x.words k (inl l) (omega arith); others = x.others }

  pub turned : {t : ℕ} → rec L (owner L) 0 ≡ space → (t ≡ space → ⊥) → Turning b L L' p t vs → Given b L L' (owner L) p vs
  turned type n x =
      record {
        below = x.p_below;
        is_space = type;
        new = x.new;
        low = λ k l. x.others (owner L) (apart (rec L) type x.was (λ z. n (omega arith))) k (omega arith);
        others = λ q _. x.others q;
      }

module _ {b : Machine} {L L' : List ℕ} {a p t : ℕ} {vs : List ℕ} (x : Given b L L' a p (t ∷ a ∷ vs)) where
  pub is_new : Is b (rec L') a t p
  is_new = record { below = x.below; type = x.new 0 (omega arith); own = x.new 1 (omega arith) }

  -- where p was no table, a table of a's is one still
  pub table_on : {t q : ℕ} → (Table (rec L p 0) → ⊥) → Table t → Is b (rec L) a t q → Is b (rec L') a t q
  table_on {q = q} none l i =
      let s = x.others q (apart (rec L) i.type x.is_space (λ z. omega arith)) (apart (rec L) i.type refl (λ z. none (omega arith))) in
      is_moved i (s 0 (omega arith)) (s 1 (omega arith))
