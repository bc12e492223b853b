-- Every record moves the ledger as its call says. Assumes nothing.
pub mod Steps
pub mod Building
pub mod System
pub mod Enclave
pub mod Given
use Prim.Native.Nat.{ℕ}
use mathlib.Core.Path.{◌≡◌, refl}
use mathlib.Core.List.{List}
use mathlib.Core.Logic.{inl, inr}
use Rattle.machine.specs.declared.Machine.{Machine}
use Rattle.answer.specs.Answer.{Out, call}
use Rattle.answer.proofs.Laws.{by_code}
use Rattle.accept.specs.Accept.{Accepted}
use Rattle.building.specs.Calls.{init_addr_space, init_thread, init_table, alloc_spare, map_secure, map_insecure, finalise}
use Rattle.system.specs.Calls.{get_phys_pages, enter_thread, resume, stop, remove, free_pages}
use Rattle.attesting.specs.Calls.{get_random, attest, verify}
use Rattle.enclave.specs.Calls.{spare_table, map_data, unmap_data, exit, interrupt, fault}
use Rattle.enclave.proofs.Laws.{by_load, by_store}
use Rattle.records.specs.Records.{arg, args}
use Rattle.records.proofs.Form.{somebody_runs}
use Rattle.calls.specs.Table.{calls}
use Rattle.batch.specs.Batch.{obey}
use Rattle.batch.proofs.Obeyed.{◌and◌, by_rows_alone}
use Rattle.promises.proofs.Moves.{Moves, Moves.refused, Moves.quiet, Moves.founds, Moves.threads, Moves.tables, Moves.spares, Moves.maps, Moves.closes, Moves.enters, Moves.resumes, Moves.stops, Moves.removes, Moves.own_table, Moves.own_maps, Moves.own_unmaps, Moves.exits, Moves.faults, Moves.suspends}
use Rattle.promises.proofs.Moved.Building.{founding, making_thread, making_table, making_spare, making_data, closing}
use Rattle.promises.proofs.Moved.System.{entering, resuming, stopping, removing}
use Rattle.promises.proofs.Moved.Enclave.{turning_table, turning_data, turning_spare, ending, suspending}

pub moves : (b : Machine) (M L W : List ℕ) → Accepted b M L → Moves b M L W (obey b M L W)
unfolding calls get_phys_pages init_addr_space init_thread init_table alloc_spare map_secure map_insecure finalise enter_thread resume stop remove free_pages get_random attest verify spare_table map_data unmap_data exit interrupt fault
moves b M L W ok =
    by_rows_alone b M L W (Moves b M L W) (λ c n. refused n refl)
    ((λ e _. quiet (inl e) refl refl)
    and (λ e _. does _ _ (λ z. founds e refl (founding (x 1) (x 2) ok z)))
    and (λ e _. does _ _ (λ z. let (now, m) = making_thread (x 1) (x 2) (x 3) ok z in threads e refl now m))
    and (λ e _. does _ _ (λ z. let (now, m) = making_table (x 1) (x 2) (x 3) ok z in tables e refl now m))
    and (λ e _. does _ _ (λ z. spares e refl (making_spare (x 1) (x 2) ok z)))
    and (λ e _. does _ _ (λ z. let (now, m) = making_data (x 1) (x 2) (x 3) (x 4) ok z in maps e refl now m))
    and (λ e _. does _ _ (λ z. quiet (inr (inl e)) refl refl))
    and (λ e _. does _ _ (λ z. closes e refl (closing (x 1) ok z)))
    and (λ e _. does _ _ (λ z. enters e refl (entering (x 1) ok z)))
    and (λ e _. does _ _ (λ z. resumes e refl (resuming (x 1) ok z)))
    and (λ e _. does _ _ (λ z. stops e refl (stopping (x 1) ok z)))
    and (λ e _. does _ _ (λ z. removes e refl (removing (x 1) ok z)))
    and (λ e _. quiet (inr (inr (inl e))) refl refl)
    and (λ e _. quiet (inr (inr (inr (inl e)))) refl refl)
    and (λ e _. quiet (inr (inr (inr (inr (inl e))))) refl refl)
    and (λ e _. quiet (inr (inr (inr (inr (inr (inl e)))))) refl refl)
    and (λ e _. does _ _ (λ z. own_table e refl (turning_table (x 1) (x 2) ok z)))
    and (λ e _. does _ _ (λ z. own_maps e refl (turning_data (x 1) (x 2) ok z)))
    and (λ e _. does _ _ (λ z. own_unmaps e refl (turning_spare (x 1) ok z)))
    and (λ e _. exits e refl (ending ok))
    and (λ e u. suspends e refl (suspending (args W 1 17) ok (somebody_runs L 39 refl u)))
    and (λ _ _. ends)
    and (λ e _. by_load b M L (x 1) (Moves b M L W) (λ _. ends) (λ v _. quiet (inr (inr (inr (inr (inr (inr (inl e))))))) refl refl))
    and (λ e _. by_store b M L (x 1) (x 2) (Moves b M L W) (λ _. ends) (λ v _. quiet (inr (inr (inr (inr (inr (inr (inr e))))))) refl refl))
    and tt)
  where
    x : ℕ → ℕ
    x k = arg W k

    ends : Moves b M L W (fault M L)
    ends = faults refl (ending ok)

    does : (code : ℕ) (o : Out) → (code ≡ 0 → Moves b M L W o) → Moves b M L W (call code M L o)
    does = by_code M L (Moves b M L W) (λ c n. refused n refl)
