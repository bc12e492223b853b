use native.Mathlib.Omega.{arith}
use Rattle.words.proofs.Says.{yes_holds}
use Rattle.accept.proofs.Stretches.{row_takes, row_fails, slot_more, slot_empty, stretch_more, stretch_empty}
use Rattle.accept.proofs.links.slots_pass.Goals as goal
use Rattle.accept.proofs.links.slots_pass.Goals.{else-held-ne0-via-then-held-ne0+else-not-pass, else-held-ne0-via-else-held-ne0, then-not-all_zero+else-loop-i-test, else-not-all_zero}

pub pass-requires : goal.pass-requires
pass-requires g c =
    row_takes c.args.slots.now c.as_chunks.ensures.front (omega arith) c.loop-i-test.true c.if-held-ne0.true (goal.F-pre g c.args.pass) c.requires.takes

pub returns-then-not-pass : goal.returns-then-not-pass
returns-then-not-pass g c =
    record {
      all = λ e. (cc);
      some = λ e.
          row_fails c.args.slots.now c.as_chunks.ensures.front (omega arith) c.loop-i-test.true c.if-held-ne0.true (goal.F-post g c.args.pass)
          c.if-not-pass.ensures;
    }

pub loop-i-preserved : goal.loop-i-preserved
loop-i-preserved g c =
    let post = goal.F-post g c.args.pass in
    elim c.else-held-ne0.branch [
      | else-held-ne0-via-then-held-ne0+else-not-pass w ↦
          slot_more c.args.slots.now c.as_chunks.ensures.front (omega arith) post c.loop-i-test.true c.loop-i.invariant w.if-not-pass.ensures
      | else-held-ne0-via-else-held-ne0 w ↦
          slot_empty c.args.slots.now c.as_chunks.ensures.front (omega arith) post c.loop-i-test.true c.loop-i.invariant w.if-held-ne0.false
    ]

pub loop-k-preserved : goal.loop-k-preserved
loop-k-preserved g c =
    let post = goal.F-post g c.args.pass in
    elim c.if-not-all_zero.branch [
      | then-not-all_zero+else-loop-i-test w ↦
          stretch_more c.args.slots.now c.as_chunks.ensures.front (omega arith) post w.loop-i-test.false w.loop-i.invariant
      | else-not-all_zero w ↦
          stretch_empty c.args.slots.now c.as_chunks.ensures.front (omega arith) post c.loop-k.invariant
          (yes_holds c.all_zero.result c.all_zero.ensures w.if-not-all_zero.false)
    ]
