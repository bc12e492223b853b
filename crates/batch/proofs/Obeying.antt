-- One record as the code obeys it: its call, the form, then what the call does. Assumes nothing.
use Prim.Native.Nat.{ℕ}
use mathlib.Core.Path.{◌≡◌, refl, sym, ap, ◌∙◌}
use mathlib.Core.List.{List}
use Rattle.std.specs.Prelude.{Result, Ok, Err, IsErrAnd}
use Rattle.machine.specs.declared.Machine.{Machine}
use Rattle.answer.specs.declared.Answer.{Answer}
use Rattle.answer.specs.declared.refusals.Refusal.{Refusal}
use Rattle.answer.specs.declared.refusals.Refusal.TheVariants.{BadRecord}
use Rattle.answer.specs.Answer.{call, numbers}
use Rattle.answer.proofs.Checks.{handed}
use Rattle.records.specs.Records.{arg, form_code}
use Rattle.calls.specs.declared.call.Call.{Call}
use Rattle.calls.specs.declared.call.NoCall.{NoCall}
use Rattle.calls.specs.Table.{no_row, calls, lookup}
use Rattle.calls.specs.Acted.{found, call_number, arguments_of, acted, Called}
use Rattle.calls.proofs.Rows.{number_is, listed}
use Rattle.batch.specs.Batch.{obey_row, obey}

module _ (b : Machine) (M L W : List ℕ) where
  pub no_such_call : {r : Result Call NoCall} {n : NoCall} (q : Result Answer Refusal) → r ≡ Err n → Called (arg W 0) r
      → IsErrAnd q (λ e. e ≡ BadRecord) → record { ans = numbers q; mem = M; led = L } ≡ obey b M L W
  unfolding obey
  no_such_call q is called out =
      let none : lookup (arg W 0) calls ≡ no_row = (rw is at called).1 in
      ap (λ (r : Result Answer Refusal). record { ans = numbers r; mem = M; led = L }) (handed out) ∙ sym (ap (obey_row b M L W) none)

  pub obeyed : {r : Result Call NoCall} {c : Call} {i k : ℕ} → r ≡ Ok c → Called (arg W 0) r → i ≡ call_number c → k ≡ arguments_of c
      → call (form_code L i k W) M L (acted b M L W c) ≡ obey b M L W
  unfolding obey found arguments_of acted
  obeyed {c = c} {i = i} {k = k} is called ei ek =
      let same : call_number c ≡ arg W 0 = rw is at called in
      let row = listed c in
      let number : call_number c ≡ row.0.number = number_is (call_number c) calls row.1 in
      rw (← same, ei, ek, row.1, number) refl
