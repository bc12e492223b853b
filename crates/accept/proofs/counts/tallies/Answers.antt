use mathlib.Core.Path.{ap, ◌∙◌}
use native.Mathlib.Omega.{arith}
use Rattle.ledger.specs.Ledger.{rec}
use Rattle.accept.specs.Checks.{weight}
use Rattle.accept.proofs.Sums.{small, weight_le, tallied_off, tallied_on}
use Rattle.accept.proofs.counts.tallies.Goals as goal
use Rattle.accept.proofs.counts.tallies.Goals.{then-a-lt-MOST_PAGES, else-a-lt-MOST_PAGES}

pub overflow_add-sums : goal.overflow_add-sums
overflow_add-sums c =
    let l = c.loop-p in
    record {
      fits =
          omega (
            arith,
            small (rec c.args.led.now) l.p l.sums c.word-a.result l.invariant c.if-a-lt-MOST_PAGES.true,
            weight_le c.word.result,
          );
    }

pub loop-p-preserved : goal.loop-p-preserved
loop-p-preserved c =
    let l = c.loop-p in
    let w = rec c.args.led.now in
    let own = c.word-a.ensures in
    let k = c.weigh-k.ensures ∙ ap weight c.word.ensures in
    elim c.if-a-lt-MOST_PAGES.branch [
      | then-a-lt-MOST_PAGES x ↦ rw x.sums-is (tallied_on weight w l.p l.sums l.invariant _ own _ k x.if-a-lt-MOST_PAGES.true)
      | else-a-lt-MOST_PAGES x ↦ rw x.sums-is (tallied_off weight w l.p l.sums l.invariant _ own x.if-a-lt-MOST_PAGES.false)
    ]
