-- One law for whatever is said of one record, in two states or in one: it is refused, or the call of one of the rows acts. Assumes nothing.
use Prim.Native.Nat.{ℕ}
use mathlib.Core.Path.{◌≡◌, refl, ap}
use mathlib.Core.Bool.{Bool, true, false}
use mathlib.Core.List.{List, [], ◌∷◌}
use native.Mathlib.Nat.{suc-ne-zero}
use lib.Dec.{eqb}
use borrow.Author.Tests.{eqb-true}
use Rattle.words.specs.Words.{pick}
use Rattle.words.proofs.Codes.{or_none}
use Rattle.machine.specs.declared.Machine.{Machine}
use Rattle.answer.specs.Answer.{Out, refused}
use Rattle.answer.proofs.Laws.{by_codes}
use Rattle.records.specs.Records.{arg, turn_code, form_code}
use Rattle.calls.specs.Table.{Row, the_row, calls, lookup}
use Rattle.batch.specs.Batch.{obey_row, obey}

-- equal outcomes have equal parts
pub parts : {x y : Out} → x ≡ y → (x.mem ≡ y.mem) × (x.led ≡ y.led) × (x.ans ≡ y.ans)
parts e = (ap (λ (o : Out). o.mem) e, ap (λ (o : Out). o.led) e, ap (λ (o : Out). o.ans) e)

-- Q of each row; and how its proofs are strung together
abbrev pub Each : (Row → Type 0) → List Row → Type 0
Each Q [] = Unit {0}
Each Q (r ∷ rs) = Q r × Each Q rs

infixr 5 ◌and◌
abbrev pub ◌and◌ : {A B : Type 0} → A → B → A × B
x and y = (x, y)

-- ---- two states, in which it is the same one's turn
module _ (b : Machine) (M L M' L' W : List ℕ) (R : Out → Out → Type 0)
    (no_call : (c : ℕ) → (c ≡ 0 → ⊥) → R (refused c M L) (refused c M' L')) (turn : (i : ℕ) → turn_code L i ≡ turn_code L' i) where
  rows : (i : ℕ) (rs : List Row)
      → Each (λ r. i ≡ r.number → turn_code L r.number ≡ 0 → R (r.acts b M L W) (r.acts b M' L' W)) rs
      → R (obey_row b M L W (lookup i rs)) (obey_row b M' L' W (lookup i rs))
  unfolding lookup form_code
  rows i [] h = no_call 19 (suc-ne-zero 18)
  rows i (r ∷ rs) h =
      go (eqb i r.number)
      (λ e.
      rw (← turn r.number)
      (by_codes M L M' L' R no_call (form_code L r.number r.arguments W) (r.acts b M L W) (r.acts b M' L' W)
      (λ z. h.0 (eqb-true i r.number e) (or_none z).1)))
      (rows i rs h.1)
    where
      go : (t : Bool) → (t ≡ true → R (obey_row b M L W (the_row r)) (obey_row b M' L' W (the_row r)))
          → R (obey_row b M L W (lookup i rs)) (obey_row b M' L' W (lookup i rs))
          → R (obey_row b M L W (pick t (the_row r) (lookup i rs))) (obey_row b M' L' W (pick t (the_row r) (lookup i rs)))
      go true p q = p refl
      go false p q = q

  -- what holds of every refusal in both, and of each row's call at its turn, holds of the record
  pub by_rows : Each (λ r. arg W 0 ≡ r.number → turn_code L r.number ≡ 0 → R (r.acts b M L W) (r.acts b M' L' W)) calls
      → R (obey b M L W) (obey b M' L' W)
  unfolding obey
  by_rows h = rows (arg W 0) calls h

-- ---- one state
pub by_rows_alone : (b : Machine) (M L W : List ℕ) (P : Out → Type 0) → ((c : ℕ) → (c ≡ 0 → ⊥) → P (refused c M L))
    → Each (λ r. arg W 0 ≡ r.number → turn_code L r.number ≡ 0 → P (r.acts b M L W)) calls → P (obey b M L W)
by_rows_alone b M L W P no_call = by_rows b M L M L W (λ o _. P o) no_call (λ i. refl)
