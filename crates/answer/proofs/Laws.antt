-- What a call's refusals say, for its code and for what is proved above, and a call's code where a check refuses. Assumes nothing.
use Prim.Native.Nat.{ℕ, zero, suc, ◌+◌, ◌<◌}
use mathlib.Core.Path.{◌≡◌, refl, sym, ap, ◌∙◌}
use mathlib.Core.Bool.{Bool, true, false}
use mathlib.Core.List.{List, [], ◌∷◌}
use native.Mathlib.Nat.{suc-ne-zero}
use native.Mathlib.Omega.{arith}
use lib.Dec.{leb, eqb}
use borrow.Author.Tests.{leb-false, eqb-true}
use Rattle.words.specs.Words.{pick}
use Rattle.words.proofs.Codes.{is, in_range, or_none}
use Rattle.machine.specs.declared.Machine.{Machine}
use Rattle.mapping.specs.Mapping.{most_tables}
use Rattle.ledger.specs.Ledger.{rec}
use Rattle.ledger.specs.Names.{free, space, building}
use Rattle.memory.specs.Memory.{frame}
use Rattle.walk.specs.Walk.{walk}
use Rattle.std.specs.Prelude.{Result, Err, Some, None, IsErrAnd}
use Rattle.walk.proofs.Laws.{Holds, by_word, walk_nothing, walk_table}
use Rattle.answer.specs.declared.refusals.Refusal.{Refusal}
use Rattle.answer.specs.declared.Answer.{Answer}
use Rattle.answer.specs.Answer.{Out, numbers, refused, unless, call, as_code, pg_code, building_code, addr_code, index_code, taken_code}
use Rattle.answer.specs.Refusals.{number, number_of, no_table, slot_taken}
use Rattle.answer.proofs.Checks.{number_some, handed}

module _ (b : Machine) (L : List ℕ) where
  pub passes_as : (a : ℕ) → as_code b L a ≡ 0 → (a < b.pages) × (rec L a 0 ≡ space)
  unfolding as_code
  passes_as a e = let x = or_none e in (in_range b.pages a 0 x.0, is (rec L a 0) space 2 x.1)

  pub passes_pg : (p : ℕ) → pg_code b L p ≡ 0 → (p < b.pages) × (rec L p 0 ≡ free)
  unfolding pg_code
  passes_pg p e = let x = or_none e in (in_range b.pages p 0 x.0, is (rec L p 0) free 1 x.1)

  pub passes_building : (a : ℕ) → building_code b L a ≡ 0 → (a < b.pages) × (rec L a 0 ≡ space) × (rec L a 3 ≡ building)
  unfolding building_code
  passes_building a e =
      let x = or_none e in
      let y = passes_as a x.0 in
      (y.0, y.1, is (rec L a 3) building 3 x.1)

pick_zero : (t : Bool) (c d : ℕ) → pick t (suc c) d ≡ 0 → (t ≡ false) × (d ≡ 0)
pick_zero true c d e = absurd (omega arith)
pick_zero false c d e = (refl, e)

zero_pick : (t : Bool) (c : ℕ) → pick t 0 (suc c) ≡ 0 → t ≡ true
zero_pick true c e = refl
zero_pick false c e = absurd (omega arith)

module _ (M : List ℕ) (s f : ℕ) where
  pub passes_addr : (va : ℕ) → addr_code M s f va ≡ 0 → Holds M s f va 0
  unfolding addr_code
  passes_addr va e =
      by_word M s f va (λ z. absurd (no (walk_nothing M s f va z)))
      (λ T t. record { table = T; named = t; slot = empty (walk_table M s f va T t) })
    where
      no : walk 2 M s f va ≡ None → ⊥
      no w = let z : ◌≡◌ {A = ℕ} no_table 0 = ap taken_code (sym w) ∙ e in omega arith

      empty : {T v : ℕ} → walk 2 M s f va ≡ Some (record { table = T; word = v }) → v ≡ 0
      empty {v = v} w = eqb-true v 0 (zero_pick (eqb v 0) 6 (ap taken_code (sym w) ∙ e))

  pub passes_index : (i : ℕ) → index_code M s f i ≡ 0 → (i < most_tables) × (frame M (s + f) i ≡ 0)
  unfolding index_code
  passes_index i e =
      let x = pick_zero (leb most_tables i) 20 (pick (eqb (frame M (s + f) i) 0) 0 slot_taken) e in
      (leb-false most_tables i x.0, eqb-true (frame M (s + f) i) 0 (zero_pick (eqb (frame M (s + f) i) 0) 6 x.1))

-- ---- a call is refused, or done
pub call_refused : {code : ℕ} (M L : List ℕ) (o : Out) → (code ≡ 0 → ⊥) → call code M L o ≡ refused code M L
unfolding unless
call_refused {code = zero} M L o h = absurd (h refl)
call_refused {code = suc code} M L o h = refl

pub call_done : {code : ℕ} (M L : List ℕ) (o : Out) → code ≡ 0 → call code M L o ≡ o
unfolding unless
call_done {code = zero} M L o e = refl
call_done {code = suc code} M L o e = absurd (suc-ne-zero code e)

-- what holds of every refusal, in two states, and of the effects where no check refuses, holds of the call
pub by_codes : (M L M' L' : List ℕ) (R : Out → Out → Type 0) → ((c : ℕ) → (c ≡ 0 → ⊥) → R (refused c M L) (refused c M' L'))
    → (code : ℕ) (o o' : Out) → (code ≡ 0 → R o o') → R (call code M L o) (call code M' L' o')
unfolding unless
by_codes M L M' L' R no_call zero o o' h = h refl
by_codes M L M' L' R no_call (suc c) o o' h = no_call (suc c) (suc-ne-zero c)

-- in one
pub by_code : (M L : List ℕ) (P : Out → Type 0) → ((c : ℕ) → (c ≡ 0 → ⊥) → P (refused c M L)) → (code : ℕ) (o : Out) → (code ≡ 0 → P o)
    → P (call code M L o)
by_code M L P no_call code o = by_codes M L M L (λ x _. P x) no_call code o o

-- what holds of the memory and the ledger, and is kept by the effect where no check refuses, is kept by the call
pub kept_by_call : (P : List ℕ → List ℕ → Type 0) (code : ℕ) (M L : List ℕ) (o : Out) → P M L → (code ≡ 0 → P o.mem o.led)
    → P (call code M L o).mem (call code M L o).led
kept_by_call P code M L o old new = by_code M L (λ x. P x.mem x.led) (λ _ _. old) code o new

-- ---- a check refused, and `?` hands it on
pub said : {r : Result Unit Refusal} {e : Refusal} {code : ℕ} (q : Result Answer Refusal) (M L : List ℕ) (o : Out) → r ≡ Err e → number_of r ≡ code
    → IsErrAnd q (λ x. x ≡ e) → record { ans = numbers q; mem = M; led = L } ≡ call code M L o
said {e} {code} q M L o is says out =
    let here : number e ≡ code = sym (ap number_of is) ∙ says in
    ap (λ (a : List ℕ). record { ans = a; mem = M; led = L }) (ap numbers (handed out) ∙ ap (λ (c : ℕ). c ∷ []) here)
    ∙ sym (call_refused M L o (λ z. number_some e (here ∙ z)))
