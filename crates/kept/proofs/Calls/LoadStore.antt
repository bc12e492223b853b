-- Calls 41, Load va, and 42, Store va, w, keep what acceptance demands. Assumes nothing.
use Prim.Native.Nat.{ℕ, ◌+◌}
use mathlib.Core.Path.{◌≡◌, refl}
use mathlib.Core.Bool.{true}
use mathlib.Core.List.{List}
use native.Mathlib.Omega.{arith}
use Rattle.machine.specs.declared.Machine.{Machine}
use Rattle.ledger.specs.Names.{running_word}
use Rattle.ledger.specs.Ledger.{header}
use Rattle.memory.proofs.Frames.{length-put_word, put_word_frame}
use Rattle.walk.specs.Walk.{frame_of, word_of}
use Rattle.answer.specs.Answer.{Out}
use Rattle.accept.specs.Accept.{Accepted}
use Rattle.enclave.specs.Calls.{load, store}
use Rattle.enclave.proofs.Laws.{by_load, by_store}
use Rattle.kept.proofs.Layers.Contents.{stores_kept}
use Rattle.kept.proofs.Facts.Bridge.{accepted}
use Rattle.kept.proofs.Reach.{open_through, open_data}
use Rattle.kept.proofs.Calls.Ends.{kept_fault}

module _ (b : Machine) (M L : List ℕ) where
  abbrev Kept : Out → Type 0
  Kept o = Accepted b o.mem o.led

  pub kept_load : (va t : ℕ) → header L running_word ≡ t + 1 → Accepted b M L → Accepted b (load b M L va).mem (load b M L va).led
  kept_load va t e ok = by_load b M L va Kept (λ _. kept_fault b M L ok) (λ v _. ok)

  pub kept_store : (va w t : ℕ) → header L running_word ≡ t + 1 → Accepted b M L → Accepted b (store b M L va w).mem (store b M L va w).led
  kept_store va w t e ok =
      by_store b M L va w Kept (λ _. kept_fault b M L ok)
      (λ v leads.
      let f = frame_of v in
      let k = word_of va in
      accepted ok (length-put_word M f k w) refl
      (stores_kept ok.rules
      (λ q l other j jl. put_word_frame M f k w (omega arith) (b.secure + q) j (open_data (open_through ok t e va true leads) q l other) jl)))
