-- Acceptance passes after every record, whatever its words, and after every batch. Assumes nothing.
use Prim.Native.Nat.{ℕ, zero, suc}
use mathlib.Core.Path.{refl}
use mathlib.Core.List.{List}
use lib.ListN.{take, drop}
use Rattle.words.specs.Words.{record_words}
use Rattle.machine.specs.declared.Machine.{Machine}
use Rattle.answer.specs.Answer.{running}
use Rattle.accept.specs.Accept.{Accepted}
use Rattle.records.specs.Records.{arg, args}
use Rattle.records.proofs.Form.{nobody_runs, somebody_runs}
use Rattle.calls.specs.Table.{calls}
use Rattle.batch.specs.Batch.{obey, after, batch}
use Rattle.batch.proofs.Obeyed.{◌and◌, by_rows_alone}
use Rattle.kept.proofs.Calls.InitAddrSpace.{kept_init_addr_space}
use Rattle.kept.proofs.Calls.InitThread.{kept_init_thread}
use Rattle.kept.proofs.Calls.InitTable.{kept_init_table}
use Rattle.kept.proofs.Calls.AllocSpare.{kept_alloc_spare}
use Rattle.kept.proofs.Calls.MapSecure.{kept_map_secure}
use Rattle.kept.proofs.Calls.MapInsecure.{kept_map_insecure}
use Rattle.kept.proofs.Calls.Finalise.{kept_finalise}
use Rattle.kept.proofs.Calls.EnterThread.{kept_enter}
use Rattle.kept.proofs.Calls.Resume.{kept_resume}
use Rattle.kept.proofs.Calls.Stop.{kept_stop}
use Rattle.kept.proofs.Calls.Remove.{kept_remove}
use Rattle.kept.proofs.Calls.SpareTable.{kept_spare_table}
use Rattle.kept.proofs.Calls.MapData.{kept_map_data}
use Rattle.kept.proofs.Calls.UnmapData.{kept_unmap_data}
use Rattle.kept.proofs.Calls.Interrupt.{kept_interrupt}
use Rattle.kept.proofs.Calls.LoadStore.{kept_load, kept_store}
use Rattle.kept.proofs.Calls.Ends.{kept_exit, kept_fault}
use Rattle.kept.proofs.Calls.Still.{kept_get_phys_pages, kept_free_pages, kept_get_random, kept_attest, kept_verify}

pub every_record_keeps : (b : Machine) (M L W : List ℕ) → Accepted b M L → Accepted b (obey b M L W).mem (obey b M L W).led
unfolding calls
every_record_keeps b M L W ok =
    by_rows_alone b M L W (λ o. Accepted b o.mem o.led) (λ _ _. ok)
    ((λ _ _. kept_get_phys_pages b M L ok)
    and (λ _ _. kept_init_addr_space b M L (x 1) (x 2) ok)
    and (λ _ _. kept_init_thread b M L (x 1) (x 2) (x 3) ok)
    and (λ _ _. kept_init_table b M L (x 1) (x 2) (x 3) ok)
    and (λ _ _. kept_alloc_spare b M L (x 1) (x 2) ok)
    and (λ _ _. kept_map_secure b M L (x 1) (x 2) (x 3) (x 4) ok)
    and (λ _ _. kept_map_insecure b M L (x 1) (x 2) (x 3) ok)
    and (λ _ _. kept_finalise b M L (x 1) ok)
    and (λ _ _. kept_enter b M L (x 1) (x 2) (x 3) (x 4) ok)
    and (λ _ _. kept_resume b M L (x 1) ok)
    and (λ _ e. kept_stop b M L (x 1) (nobody_runs L 11 refl e) ok)
    and (λ _ e. kept_remove b M L (x 1) (nobody_runs L 12 refl e) ok)
    and (λ _ _. kept_free_pages b M L ok)
    and (λ _ _. kept_get_random b M L (x 1) ok)
    and (λ _ _. kept_attest b M L (args W 1 8) ok)
    and (λ _ _. kept_verify b M L (args W 1 8) (args W 9 8) (args W 17 8) ok)
    and (λ _ e. kept_spare_table b M L (x 1) (x 2) (running L) (somebody_runs L 35 refl e) ok)
    and (λ _ e. kept_map_data b M L (x 1) (x 2) (running L) (somebody_runs L 36 refl e) ok)
    and (λ _ e. kept_unmap_data b M L (x 1) (running L) (somebody_runs L 37 refl e) ok)
    and (λ _ _. kept_exit b M L (x 1) ok)
    and (λ _ e. kept_interrupt b M L (args W 1 17) (running L) (somebody_runs L 39 refl e) ok)
    and (λ _ _. kept_fault b M L ok)
    and (λ _ e. kept_load b M L (x 1) (running L) (somebody_runs L 41 refl e) ok)
    and (λ _ e. kept_store b M L (x 1) (x 2) (running L) (somebody_runs L 42 refl e) ok)
    and tt)
  where
    x : ℕ → ℕ
    x k = arg W k

pub every_batch_keeps : (b : Machine) (k : ℕ) (M L W : List ℕ) → Accepted b M L → Accepted b (batch b k M L W).mem (batch b k M L W).led
unfolding batch after
every_batch_keeps b zero M L W ok = ok
every_batch_keeps b (suc k) M L W ok =
    let o = obey b M L (take record_words W) in
    every_batch_keeps b k o.mem o.led (drop record_words W) (every_record_keeps b M L (take record_words W) ok)
