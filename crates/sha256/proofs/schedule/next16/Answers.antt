-- `next16` gives the next sixteen words: it rolls each of the sixteen. Assumes nothing.
use Rattle.std.proofs.Common.{refl, rules, ◌∙◌}
use Rattle.sha256.proofs.Sixteens.{rolls, rolls_more, rolls_words}
use Rattle.sha256.proofs.schedule.next16.Goals as goal

pub returns : goal.returns
unfolding rolls
returns c =
    let s = c.args in
    rolls_more s.w.now 15
    (rolls_more s.w.now 14
    (rolls_more s.w.now 13
    (rolls_more s.w.now 12
    (rolls_more s.w.now 11
    (rolls_more s.w.now 10
    (rolls_more s.w.now 9
    (rolls_more s.w.now 8
    (rolls_more s.w.now 7
    (rolls_more s.w.now 6
    (rolls_more s.w.now 5
    (rolls_more s.w.now 4
    (rolls_more s.w.now 3
    (rolls_more s.w.now 2
    (rolls_more s.w.now 1
    (rolls_more s.w.now 0
    refl
    c.roll.ensures)
    c.roll-2.ensures)
    c.roll-3.ensures)
    c.roll-4.ensures)
    c.roll-5.ensures)
    c.roll-6.ensures)
    c.roll-7.ensures)
    c.roll-8.ensures)
    c.roll-9.ensures)
    c.roll-10.ensures)
    c.roll-11.ensures)
    c.roll-12.ensures)
    c.roll-13.ensures)
    c.roll-14.ensures)
    c.roll-15.ensures)
    c.roll-16.ensures
    ∙ rolls_words s.w.now (search rules)
