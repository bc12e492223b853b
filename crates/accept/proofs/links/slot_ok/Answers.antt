-- Each frame leaves a slot one way: an insecure one wants the rights below 4, any other must be a data page's.
use mathlib.Core.Path.{sym, ◌∙◌}
use mathlib.Core.Bool.{true≢false}
use native.Mathlib.Omega.{arith}
use Rattle.words.proofs.Says.{says_same}
use Rattle.mapping.specs.Mapping.{execute_right}
use Rattle.machine.proofs.Laws.{insecure_holds, holds_insecure}
use Rattle.accept.proofs.Slots.{says_below, slot_must, slot_outside, slot_inside, insecure_must, inside_must}
use Rattle.accept.proofs.links.slot_ok.Goals as goal

pub returns-then-insecure : goal.returns-then-insecure
returns-then-insecure c =
    let is = insecure_holds _ _ (sym c.insecure.ensures ∙ c.if-insecure.true) in
    says_below _ execute_right (λ l. slot_outside _ is l c.if-rights-ne1.false) (λ x. insecure_must (slot_must c.requires.used x) is)

pub returns : goal.returns
returns c =
    says_same c.inside.result (λ z. slot_inside _ z (omega arith) c.if-rights-ne1.false)
    (λ x.
    inside_must (slot_must c.requires.used x)
    (λ i. true≢false (sym (holds_insecure _ _ i) ∙ sym c.insecure.ensures ∙ c.if-insecure.false)))
    c.inside.ensures
