-- Calls 38, Exit v, and 40, Fault, keep what acceptance demands. Assumes nothing.
use Prim.Native.Nat.{ℕ}
use mathlib.Core.List.{List}
use Rattle.machine.specs.declared.Machine.{Machine}
use Rattle.accept.specs.Accept.{Accepted}
use Rattle.enclave.specs.Calls.{exit, fault}
use Rattle.kept.proofs.Layers.Run.{end_kept}

module _ (b : Machine) (M L : List ℕ) where
  pub kept_exit : (v : ℕ) → Accepted b M L → Accepted b (exit M L v).mem (exit M L v).led
  unfolding exit
  kept_exit v ok = end_kept ok

  pub kept_fault : Accepted b M L → Accepted b (fault M L).mem (fault M L).led
  unfolding fault
  kept_fault ok = end_kept ok
