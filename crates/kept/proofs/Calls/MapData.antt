-- Call 36, MapData p, map, keeps what acceptance demands. Assumes nothing.
use Prim.Native.Nat.{ℕ, ◌+◌}
use mathlib.Core.Path.{◌≡◌, refl}
use mathlib.Core.List.{List, [], ◌∷◌}
use mathlib.Core.Logic.{inr}
use native.Mathlib.Omega.{arith}
use Rattle.machine.specs.declared.Machine.{Machine}
use Rattle.ledger.specs.Names.{running_word, data_page}
use Rattle.ledger.specs.Ledger.{header, anew}
use Rattle.walk.specs.Walk.{mapped}
use Rattle.answer.specs.Answer.{done, owner}
use Rattle.answer.proofs.Laws.{kept_by_call}
use Rattle.accept.specs.Accept.{Accepted}
use Rattle.enclave.specs.Calls.{first_page, map_data_code, map_data}
use Rattle.enclave.proofs.Laws.{passes_map_data}
use Rattle.kept.proofs.Layers.Convert.{converted}
use Rattle.kept.proofs.Layers.Become.{data_page_kept}
use Rattle.kept.proofs.Facts.Acting.{acts}

pub kept_map_data : (b : Machine) (M L : List ℕ) (p map t : ℕ) → header L running_word ≡ t + 1 → Accepted b M L
    → Accepted b (map_data b M L p map).mem (map_data b M L p map).led
unfolding map_data
kept_map_data b M L p map t e ok =
    kept_by_call (Accepted b) (map_data_code b M L p map) M L (done (mapped M b.secure (first_page L) map p) (anew L p (data_page ∷ owner L ∷ map ∷ []))) ok
    (λ z.
    let (al, type, now) = acts ok t e in
    let (pl, own, was, good, place) = passes_map_data b M L p map z in
    data_page_kept ok al type (λ e. omega arith) p (inr was) map M
    (converted ok al type now pl own (omega arith) data_page (map ∷ []) (omega arith))
    good place refl (λ q k n l. refl))
