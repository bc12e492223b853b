use mathlib.Core.Path.{sym}
use native.Mathlib.Omega.{arith}
use borrow.Author.Count.{below_more}
use Rattle.words.proofs.Says.{yes_holds, no_fails}
use Rattle.accept.proofs.Sums.{tallied_none, owned_part, blocks_part, count_same}
use Rattle.accept.proofs.counts.counts_ok.Goals as goal

pub tallies-requires-clause-tallied : goal.tallies-requires-clause-tallied
tallies-requires-clause-tallied c = tallied_none _ _

pub returns-then-not-count_ok : goal.returns-then-not-count_ok
returns-then-not-count_ok c all =
    let a = c.loop-a.a in
    let is = c.tallies.ensures.sums a (omega arith) in
    no_fails c.count_ok.result c.count_ok.ensures c.if-not-count_ok.true
    (λ e. count_same (sym (owned_part _ a (omega arith) is)) (sym (blocks_part _ a (omega arith) is)) (all a (omega arith) e))

pub loop-a-preserved : goal.loop-a-preserved
loop-a-preserved c =
    let a = c.loop-a.a in
    let is = c.tallies.ensures.sums a (omega arith) in
    below_more _ _ c.loop-a.invariant
    (λ e.
    count_same (owned_part _ a (omega arith) is) (blocks_part _ a (omega arith) is)
    (yes_holds c.count_ok.result c.count_ok.ensures c.if-not-count_ok.false e))
