-- Call 5, AllocSpare a, p, keeps what acceptance demands. Assumes nothing.
use Prim.Native.Nat.{ℕ}
use mathlib.Core.Path.{refl}
use mathlib.Core.List.{List, [], ◌∷◌}
use mathlib.Core.Logic.{inr}
use native.Mathlib.Omega.{arith}
use Rattle.machine.specs.declared.Machine.{Machine}
use Rattle.ledger.specs.Names.{spare}
use Rattle.answer.specs.Answer.{done}
use Rattle.answer.proofs.Laws.{kept_by_call}
use Rattle.accept.specs.Accept.{Accepted}
use Rattle.building.specs.Calls.{alloc_spare_code, new_spare, alloc_spare}
use Rattle.building.proofs.Laws.{passes_alloc_spare}
use Rattle.kept.proofs.Facts.Layouts.{rest_zero, layout_of}
use Rattle.kept.proofs.Layers.Alloc.{gained, allocated, alloc_plain}

pub kept_alloc_spare : (b : Machine) (M L : List ℕ) (a p : ℕ) → Accepted b M L → Accepted b (alloc_spare b M L a p).mem (alloc_spare b M L a p).led
unfolding alloc_spare new_spare
kept_alloc_spare b M L a p ok =
    kept_by_call (Accepted b) (alloc_spare_code b L a p) M L (done M (new_spare L a p)) ok
    (λ z.
    let (al, type, _, pl, was) = passes_alloc_spare b L a p z in
    let x = allocated ok al type pl was spare [] (omega arith) (inr refl) (gained ok al type pl was spare []) in
    alloc_plain ok al type pl was spare [] x (λ l. omega arith)
    (λ e. layout_of e (omega arith) (rest_zero (spare ∷ a ∷ []) x.new)) (λ e. absurd (omega arith)))
