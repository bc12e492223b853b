-- Call 3, InitThread a, t, entry, keeps what acceptance demands. Assumes nothing.
use Prim.Native.Nat.{ℕ}
use mathlib.Core.Path.{◌≡◌, refl}
use mathlib.Core.Bool.{true}
use mathlib.Core.List.{List, [], ◌∷◌}
use mathlib.Core.Logic.{inl}
use native.Mathlib.Omega.{arith}
use Rattle.machine.specs.declared.Machine.{Machine}
use Rattle.mapping.specs.Entry.{legal_entry}
use Rattle.ledger.specs.Names.{thread}
use Rattle.ledger.specs.Ledger.{hash}
use Rattle.answer.specs.Answer.{done}
use Rattle.answer.proofs.Laws.{kept_by_call}
use Rattle.accept.specs.Accept.{Zeros, ThreadRec, Accepted}
use Rattle.building.specs.Calls.{init_thread_code, add_thread, new_thread, init_thread}
use Rattle.building.proofs.Laws.{passes_init_thread}
use Rattle.kept.proofs.Facts.Layouts.{rest_zero, layout_of}
use Rattle.kept.proofs.Layers.Alloc.{measured_on, allocated, alloc_plain}

-- a new thread: its entry is legal; not suspended, no registers, no flags
new_thread_lem : {r : ℕ → ℕ} → legal_entry (r 2) ≡ true → Zeros r 3 32 → ThreadRec r
new_thread_lem legal z =
    record {
      entry = legal;
      suspended = omega (arith, z 3 (omega arith) (omega arith));
      flags = rw (z 20 (omega arith) (omega arith)) refl;
      rest = λ k lo hi. z k (omega arith) hi;
    }

pub kept_init_thread : (b : Machine) (M L : List ℕ) (a t entry : ℕ) → Accepted b M L
    → Accepted b (init_thread b M L a t entry).mem (init_thread b M L a t entry).led
unfolding init_thread new_thread
kept_init_thread b M L a t entry ok =
    kept_by_call (Accepted b) (init_thread_code b L a t entry) M L (done M (new_thread L a t entry)) ok
    (λ z.
    let (al, type, now, pl, was, legal) = passes_init_thread b L a t entry z in
    let x =
    allocated ok al type pl was thread (entry ∷ []) (omega arith) (inl now)
    (measured_on ok al type pl was thread (entry ∷ []) 1 (add_thread (hash L a) entry) (omega arith)) in
    let rest = rest_zero (thread ∷ a ∷ entry ∷ []) x.new in
    alloc_plain ok al type pl was thread (entry ∷ []) x (λ l. omega arith)
    (λ e. layout_of e (omega arith) (new_thread_lem (rw (x.new 2 (omega arith)) legal) rest)) (λ _ k lo hi. rest k lo (omega arith)))
