-- Call 9, Enter t, x, y, z, keeps what acceptance demands. Assumes nothing.
use Prim.Native.Nat.{ℕ, ◌+◌}
use mathlib.Core.Path.{◌≡◌}
use mathlib.Core.List.{List, [], ◌∷◌, ◌++◌}
use native.Mathlib.Omega.{arith}
use lib.ListN.{replicate}
use Rattle.machine.specs.declared.Machine.{Machine}
use Rattle.ledger.specs.Ledger.{rec, run}
use Rattle.answer.proofs.Laws.{kept_by_call}
use Rattle.accept.specs.Accept.{Accepted}
use Rattle.system.specs.Calls.{enter_code, enter_thread}
use Rattle.system.proofs.Laws.{passes_enter}
use Rattle.kept.proofs.Layers.Run.{run_kept}

pub kept_enter : (b : Machine) (M L : List ℕ) (t x y z : ℕ) → Accepted b M L → Accepted b (enter_thread b M L t x y z).mem (enter_thread b M L t x y z).led
unfolding enter_thread
kept_enter b M L t x y z ok =
    kept_by_call (Accepted b) (enter_code b L t) M L
    (record { ans = 0 ∷ x ∷ y ∷ z ∷ replicate 12 0 ++ (rec L t 2 ∷ 0 ∷ []); mem = M; led = run L (t + 1) }) ok
    (λ e.
    let (tl, type, now, awake) = passes_enter b L t e in
    run_kept ok (t + 1)
    (λ u s.
    let same : t ≡ u = omega arith in
    rw (← same) (record { below = tl; is_thread = type; awake = awake; of_final = now })))
