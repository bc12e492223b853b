-- Call 4, InitL2PTable a, p, i, keeps what acceptance demands. Assumes nothing.
use Prim.Native.Nat.{ℕ}
use mathlib.Core.List.{List, [], ◌∷◌}
use mathlib.Core.Logic.{inl}
use native.Mathlib.Omega.{arith}
use Rattle.machine.specs.declared.Machine.{Machine}
use Rattle.ledger.specs.Names.{second_level}
use Rattle.ledger.specs.Ledger.{rec}
use Rattle.walk.specs.Walk.{linked}
use Rattle.answer.specs.Answer.{done}
use Rattle.answer.proofs.Laws.{kept_by_call}
use Rattle.accept.specs.Accept.{Accepted}
use Rattle.building.specs.Calls.{init_table_code, new_table, init_table}
use Rattle.building.proofs.Laws.{passes_init_table}
use Rattle.kept.proofs.Layers.Alloc.{gained, allocated}
use Rattle.kept.proofs.Layers.Become.{table_kept}

pub kept_init_table : (b : Machine) (M L : List ℕ) (a p i : ℕ) → Accepted b M L
    → Accepted b (init_table b M L a p i).mem (init_table b M L a p i).led
unfolding init_table new_table
kept_init_table b M L a p i ok =
    kept_by_call (Accepted b) (init_table_code b M L a p i) M L (done (linked M b.secure (rec L a 2) i p) (new_table L a p i)) ok
    (λ z.
    let (al, type, now, pl, was, small, empty) = passes_init_table b M L a p i z in
    table_kept ok al type (λ e. omega arith) p (inl was) i
    (allocated ok al type pl was second_level (i ∷ []) (omega arith) (inl now) (gained ok al type pl was second_level (i ∷ []))) small empty)
