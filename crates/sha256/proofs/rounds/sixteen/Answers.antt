-- `sixteen` makes sixteen rounds, one after the other. Assumes nothing.
use Rattle.std.proofs.Common.{refl}
use Rattle.sha256.specs.Sha256.{rounds}
use Rattle.sha256.proofs.Sixteens.{rounds_more}
use Rattle.sha256.proofs.rounds.sixteen.Goals as goal

pub returns : goal.returns
unfolding rounds
returns c =
    let s = c.args in
    rounds_more s.k.now s.w.now s.v0 15
    (rounds_more s.k.now s.w.now s.v0 14
    (rounds_more s.k.now s.w.now s.v0 13
    (rounds_more s.k.now s.w.now s.v0 12
    (rounds_more s.k.now s.w.now s.v0 11
    (rounds_more s.k.now s.w.now s.v0 10
    (rounds_more s.k.now s.w.now s.v0 9
    (rounds_more s.k.now s.w.now s.v0 8
    (rounds_more s.k.now s.w.now s.v0 7
    (rounds_more s.k.now s.w.now s.v0 6
    (rounds_more s.k.now s.w.now s.v0 5
    (rounds_more s.k.now s.w.now s.v0 4
    (rounds_more s.k.now s.w.now s.v0 3
    (rounds_more s.k.now s.w.now s.v0 2
    (rounds_more s.k.now s.w.now s.v0 1
    (rounds_more s.k.now s.w.now s.v0 0
    refl
    c.at-v.ensures)
    c.at-v-2.ensures)
    c.at-v-3.ensures)
    c.at-v-4.ensures)
    c.at-v-5.ensures)
    c.at-v-6.ensures)
    c.at-v-7.ensures)
    c.at-v-8.ensures)
    c.at-v-9.ensures)
    c.at-v-10.ensures)
    c.at-v-11.ensures)
    c.at-v-12.ensures)
    c.at-v-13.ensures)
    c.at-v-14.ensures)
    c.at-v-15.ensures)
    c.at.ensures
