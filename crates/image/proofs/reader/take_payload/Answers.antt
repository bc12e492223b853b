use Prim.Native.Nat.{ℕ}
use mathlib.Core.Path.{ap, ◌∙◌}
use native.Mathlib.Omega.{arith}
use borrow.Rule.Slice.PartMut.{mid_len}
use lib.ListN.{take, drop}
use Rattle.words.proofs.Paste.{part_pasted}
use Rattle.image.specs.Reader.{payload_of}
use Rattle.image.proofs.Inside.{runs_fit}
use Rattle.image.proofs.Placed.{length-payload_of}
use Rattle.image.proofs.Taken.{ledger_taken, memory_taken}
use Rattle.image.proofs.reader.take_payload.Goals as goal

pub returns : goal.returns
returns c =
    let j = c.args.j in
    let q = c.requires in
    let e = c.runs_of-run.ensures in
    let r = c.runs_of-run.result in
    let B = c.args.block.now in
    let fit = runs_fit _ _ _ _ q.lent q.j_bound e in
    let long = length-payload_of B in
    record {
      mem_after = memory_taken j q.lent e q.j_bound _ long (part_pasted _ _ _ _ _ _ (omega arith) (c.take_run-2.ensures ∙ ap (λ (n : ℕ). take n (drop r.ledger (payload_of B))) (mid_len _ _ c.args.mem.now (omega (arith, fit.in_memory)) ∙ omega arith)));
      led_after = ledger_taken j q.lent e q.j_bound _ long (part_pasted _ _ _ _ _ _ (omega arith) (c.take_run.ensures ∙ ap (λ (n : ℕ). take n (drop 0 (payload_of B))) (mid_len _ _ c.args.led.now (omega (arith, fit.in_ledger)) ∙ omega arith)));
    }
