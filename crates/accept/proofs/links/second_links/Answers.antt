use mathlib.Core.Path.{sym, ◌∙◌}
use Rattle.std.proofs.Common.{rules}
use Rattle.words.proofs.Says.{says_same}
use Rattle.ledger.specs.Ledger.{rec}
use Rattle.memory.specs.Memory.{frame}
use Rattle.accept.specs.Accept.{SlotOk, SlotOk.empty}
use Rattle.accept.proofs.Slots.{word_at_lem, says_slots}
use Rattle.accept.proofs.Words.{here_shown}
use Rattle.accept.proofs.links.second_links.Goals as goal

pub returns : goal.returns
returns c =
    let g = c.args in
    let i = c.word-i.ensures in
    says_same c.slots_pass.result
    (λ z.
    record {
      named = sym (word_at_lem (frame g.mem.now) g.b.secure c.page_word.ensures c.word.ensures i) ∙ c.if-page_word-p.false;
      slots = λ j l. rw (← i) (z j l);
    })
    (λ x j l. rw i (x.slots j l))
    (says_slots (SlotOk g.b (rec g.led.now) g.a c.word-i.result) c.slots_pass.ensures (here_shown c.requires.here c.page_words-page.ensures)
    (λ j v h. search rules) (λ j v h. search rules) (λ j. empty))
