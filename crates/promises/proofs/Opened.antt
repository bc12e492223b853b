-- A record whose number is known, opened: its row's call acts where its form is right, and of one that is done no check refused. Assumes nothing.
use Prim.Native.Nat.{ℕ, zero, suc, ◌+◌}
use mathlib.Core.Path.{◌≡◌, refl, ap, sym, ◌∙◌}
use mathlib.Core.Bool.{true, false}
use mathlib.Core.List.{List}
use native.Mathlib.Nat.{suc-ne-zero}
use native.Mathlib.Omega.{arith}
use lib.Dec.{ltb}
use lib.ListN.{drop}
use borrow.Author.Tests.{ne_eqb}
use Rattle.words.specs.Words.{or, all_zero}
use Rattle.words.proofs.Codes.{or_none}
use Rattle.machine.specs.declared.Machine.{Machine}
use Rattle.ledger.specs.Names.{running_word}
use Rattle.ledger.specs.Ledger.{header}
use Rattle.answer.specs.Answer.{Out, unless, call, running, owner}
use Rattle.answer.proofs.Laws.{call_done}
use Rattle.records.specs.Records.{arg, turn_code, form_code}
use Rattle.calls.specs.Table.{Row, the_row, calls, lookup}
use Rattle.batch.specs.Batch.{obey_row, obey}
use Rattle.promises.specs.Terms.{code_of, Did, Running}

-- a call that is done was not refused, and leaves its effect
undone : {x : Out} {code : ℕ} (M L : List ℕ) (o : Out) → x ≡ call code M L o → code_of x ≡ 0 → (code ≡ 0) × (x ≡ o)
unfolding unless
undone {code = zero} M L o e z = (refl, e)
undone {code = suc c} M L o e z = absurd (suc-ne-zero c (ap code_of (sym e) ∙ z))

-- the row of number i
module _ {i : ℕ} {r : Row} (found : lookup i calls ≡ the_row r) where
  pub row_is : (b : Machine) (M L W : List ℕ) → arg W 0 ≡ i
      → obey b M L W ≡ call (form_code L r.number r.arguments W) M L (r.acts b M L W)
  unfolding obey
  row_is b M L W e = rw e (ap (obey_row b M L W) found)

  -- a record that is done: its call acted, at its turn, and where the call has checks it leaves its effect
  module _ {b : Machine} {M L W : List ℕ} (did : Did b M L W i) where
    formed : (form_code L r.number r.arguments W ≡ 0) × (obey b M L W ≡ r.acts b M L W)
    formed = undone M L (r.acts b M L W) (row_is b M L W did.asks) did.done

    pub opened : obey b M L W ≡ r.acts b M L W
    opened = formed.1

    pub its_turn : turn_code L r.number ≡ 0
    unfolding form_code
    its_turn = (or_none formed.0).1

    pub effect : {code : ℕ} {o : Out} → r.acts b M L W ≡ call code M L o → (code ≡ 0) × (obey b M L W ≡ o)
    effect {o = o} e = undone M L o (opened ∙ e) did.done

  -- a record of the enclave's, done or not: its zeros and its turn are enough
  pub acted : (b : Machine) (M L W : List ℕ) → ltb r.number 32 ≡ false → (header L running_word ≡ 0 → ⊥) → arg W 0 ≡ i
      → all_zero (drop (1 + r.arguments) W) ≡ true → obey b M L W ≡ r.acts b M L W
  unfolding form_code turn_code or
  acted b M L W e runs asks z =
      row_is b M L W asks ∙ call_done M L (r.acts b M L W) (rw (z, e, ne_eqb (header L running_word) 0 runs))

-- the running space is the owner for whom the call acts
pub runs_for : {L : List ℕ} {a : ℕ} → Running L a → owner L ≡ a
runs_for {L} r = let same : running L ≡ r.page = omega (arith, r.word) in rw same r.own
