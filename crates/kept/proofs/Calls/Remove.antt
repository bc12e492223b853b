-- Call 12, Remove p, keeps what acceptance demands. Assumes nothing.
use Prim.Native.Nat.{ℕ, ◌+◌}
use mathlib.Core.Path.{◌≡◌, refl}
use mathlib.Core.List.{List}
use mathlib.Core.Logic.{⊎_elim}
use native.Mathlib.Omega.{arith}
use Rattle.machine.specs.declared.Machine.{Machine}
use Rattle.ledger.specs.Names.{running_word}
use Rattle.ledger.specs.Ledger.{header, vacate}
use Rattle.memory.specs.Memory.{wiped}
use Rattle.answer.specs.Answer.{done}
use Rattle.answer.proofs.Laws.{kept_by_call}
use Rattle.accept.specs.Accept.{Accepted}
use Rattle.system.specs.Calls.{remove_code, left, remove}
use Rattle.system.proofs.Laws.{passes_remove}
use Rattle.system.proofs.Steps.{left_space, left_other}
use Rattle.kept.proofs.Layers.Lose.{lost_kept}
use Rattle.kept.proofs.Layers.Close.{closed_kept}

pub kept_remove : (b : Machine) (M L : List ℕ) (p : ℕ) → header L running_word ≡ 0 → Accepted b M L
    → Accepted b (remove b M L p).mem (remove b M L p).led
unfolding remove
kept_remove b M L p nobody ok =
    kept_by_call (Accepted b) (remove_code b L p) M L (done (wiped M (b.secure + p)) (vacate (left L p) p)) ok
    (λ z.
    let (pl, used, may) = passes_remove b L p z in
    ⊎_elim
    (λ x. rw (← left_space L p refl x.0) (closed_kept ok nobody pl x.0 x.2))
    (λ x. let other = x.0 in rw (← left_other L p refl other refl refl) (lost_kept ok nobody pl (omega arith) x.1))
    may)
