use mathlib.Core.Path.{sym, ◌∙◌}
use Rattle.answer.proofs.Checks.{passed}
use Rattle.answer.proofs.Laws.{said, call_done}
use Rattle.batch.proofs.Obeying.{no_such_call, obeyed}
use Rattle.batch.proofs.list.obey.Goals as goal

pub returns-in_err-call : goal.returns-in_err-call
returns-in_err-call c = no_such_call _ _ _ _ _ c.in_err-call.was c.try_from.ensures c.from_residual.ensures.1

pub returns-in_err-check_form : goal.returns-in_err-check_form
returns-in_err-check_form c =
    said _ _ _ _ c.in_err-check_form.was c.check_form.ensures c.from_residual-in_err-check_form.ensures.1
    ∙ obeyed _ _ _ _ c.in_ok-call.was c.try_from.ensures c.number.ensures c.arguments.ensures

pub returns : goal.returns
returns c =
    c.act.ensures ∙ sym (call_done _ _ _ (sym c.check_form.ensures ∙ passed c.in_ok-check_form.was))
    ∙ obeyed _ _ _ _ c.in_ok-call.was c.try_from.ensures c.number.ensures c.arguments.ensures
