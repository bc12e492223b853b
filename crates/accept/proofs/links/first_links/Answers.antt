use mathlib.Core.Path.{refl, sym, ◌∙◌}
use native.Mathlib.Omega.{arith}
use Rattle.std.proofs.Common.{rules}
use Rattle.words.proofs.Says.{says_same}
use Rattle.mapping.specs.Mapping.{most_tables}
use Rattle.ledger.specs.Ledger.{rec}
use Rattle.accept.specs.Checks.{Names}
use Rattle.accept.proofs.Slots.{all_pass, some_fails, names_empty}
use Rattle.accept.proofs.Words.{here_shown, first_shown, says_by, to_zeros, from_zeros}
use Rattle.accept.proofs.links.first_links.Goals as goal

pub returns-then-slots_pass : goal.returns-then-slots_pass
returns-then-slots_pass c =
    let g = c.args in
    let s = here_shown c.requires c.page_words-page.ensures in
    let names = all_pass (Names g.b (rec g.led.now) g.a) c.slots_pass.ensures (first_shown most_tables s (omega arith))
    (λ j v h. search rules) (λ j v h. search rules) (λ j. names_empty refl) c.if-slots_pass.true in
    says_same c.all_zero.result
    (λ z. record { only = sym c.word.ensures ∙ c.if-word-p.false; names = names; rest = to_zeros s most_tables z })
    (λ x. from_zeros s most_tables x.rest) c.all_zero.ensures

pub returns-else-slots_pass : goal.returns-else-slots_pass
returns-else-slots_pass c =
    let g = c.args in
    let s = here_shown c.requires c.page_words-page.ensures in
    says_by c.slots_pass.result (λ e. (cc))
    (λ e x. some_fails (Names g.b (rec g.led.now) g.a) c.slots_pass.ensures (first_shown most_tables s (omega arith)) (λ j v h. search rules) (λ j v h. search rules) (λ j. names_empty refl) e x.names)
