-- Call 35, InitL2PTable p, i, keeps what acceptance demands. Assumes nothing.
use Prim.Native.Nat.{ℕ, ◌+◌}
use mathlib.Core.Path.{◌≡◌}
use mathlib.Core.List.{List, [], ◌∷◌}
use mathlib.Core.Logic.{inr}
use native.Mathlib.Omega.{arith}
use Rattle.machine.specs.declared.Machine.{Machine}
use Rattle.ledger.specs.Names.{running_word, second_level}
use Rattle.ledger.specs.Ledger.{header, anew}
use Rattle.walk.specs.Walk.{linked}
use Rattle.answer.specs.Answer.{done, owner}
use Rattle.answer.proofs.Laws.{kept_by_call}
use Rattle.accept.specs.Accept.{Accepted}
use Rattle.enclave.specs.Calls.{first_page, spare_table_code, spare_table}
use Rattle.enclave.proofs.Laws.{passes_spare_table}
use Rattle.kept.proofs.Layers.Convert.{converted}
use Rattle.kept.proofs.Layers.Become.{table_kept}
use Rattle.kept.proofs.Facts.Acting.{acts}

pub kept_spare_table : (b : Machine) (M L : List ℕ) (p i t : ℕ) → header L running_word ≡ t + 1 → Accepted b M L
    → Accepted b (spare_table b M L p i).mem (spare_table b M L p i).led
unfolding spare_table
kept_spare_table b M L p i t e ok =
    kept_by_call (Accepted b) (spare_table_code b M L p i) M L (done (linked M b.secure (first_page L) i p) (anew L p (second_level ∷ owner L ∷ i ∷ []))) ok
    (λ z.
    let (al, type, now) = acts ok t e in
    let (pl, own, was, small, empty) = passes_spare_table b M L p i z in
    table_kept ok al type (λ e. omega arith) p (inr was) i
    (converted ok al type now pl own (omega arith) second_level (i ∷ []) (omega arith)) small empty)
