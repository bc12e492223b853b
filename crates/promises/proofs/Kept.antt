-- Acceptance passes after every record, every batch and every history. Assumes nothing.
use Prim.Native.Nat.{◌/◌}
use native.Mathlib.Omega.{arith}
use lib.ListN.{length}
use Rattle.words.specs.Words.{record_words}
use Rattle.batch.specs.Service.{Batched}
use Rattle.batch.proofs.Obeyed.{parts}
use Rattle.boot.specs.Boot.{Booted}
use Rattle.boot.proofs.Fresh.{fresh_accepted}
use Rattle.kept.proofs.Calls.Record.{every_record_keeps as kept_record, every_batch_keeps as kept-batch}
use Rattle.kept.proofs.Calls.Outsiders.{outsiders_keep as kept-outside}
use Rattle.promises.specs.Kept.{EveryRecordKeeps, EveryBatchKeeps, OutsidersKeep, History.begin, History.called, History.outside, HistoryKeeps, FreshIsAccepted, BootLeavesAccepted, BatchLeavesAccepted}

pub every_record_keeps : EveryRecordKeeps
every_record_keeps = kept_record

pub every_batch_keeps : EveryBatchKeeps
every_batch_keeps = kept-batch

pub outsiders_keep : OutsidersKeep
outsiders_keep b M M' L x ok = kept-outside b M M' L x.size x.others ok

pub history_keeps : HistoryKeeps
history_keeps b M₀ L₀ M L ok begin = ok
history_keeps b M₀ L₀ M L ok (called M₁ L₁ W h) = every_record_keeps b M₁ L₁ W (history_keeps b M₀ L₀ M₁ L₁ ok h)
history_keeps b M₀ L₀ M L ok (outside M₁ M₂ L₁ h x) = outsiders_keep b M₁ M₂ L₁ x (history_keeps b M₀ L₀ M₁ L₁ ok h)

pub fresh_is_accepted : FreshIsAccepted
fresh_is_accepted = fresh_accepted

-- ---- of the services
pub boot_leaves_accepted : BootLeavesAccepted
boot_leaves_accepted b key M L M' L' (Booted.done f e m l) = rw (m, l) (fresh_accepted b key M L f)
boot_leaves_accepted b key M L M' L' (Booted.not_fitting n e m l) = absurd (omega arith)

pub batch_leaves_accepted : BatchLeavesAccepted
batch_leaves_accepted b M L W A M' L' A' (Batched.done f e o) =
    let (m, l, a) = parts o in rw (m, l) (kept-batch b (length W / record_words) M L W f.accepted)
batch_leaves_accepted b M L W A M' L' A' (Batched.not_fitting n e m l a) = absurd (omega arith)
