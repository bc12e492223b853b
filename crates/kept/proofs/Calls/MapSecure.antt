-- Call 6, MapSecure a, p, map, frame, keeps what acceptance demands. Assumes nothing.
use Prim.Native.Nat.{ℕ, ◌+◌}
use mathlib.Core.List.{List, [], ◌∷◌}
use mathlib.Core.Logic.{inl}
use native.Mathlib.Omega.{arith}
use Rattle.machine.specs.declared.Machine.{Machine}
use Rattle.ledger.specs.Names.{data_page}
use Rattle.ledger.specs.Ledger.{rec, hash}
use Rattle.memory.specs.Memory.{words_of, copied}
use Rattle.memory.proofs.Frames.{length-copied, copied_other}
use Rattle.walk.specs.Walk.{mapped}
use Rattle.answer.specs.Answer.{done}
use Rattle.answer.proofs.Laws.{kept_by_call}
use Rattle.accept.specs.Accept.{Accepted}
use Rattle.building.specs.Calls.{map_secure_code, add_page, new_data, map_secure}
use Rattle.building.proofs.Laws.{passes_map_secure}
use Rattle.kept.proofs.Facts.Bridge.{page_in, frame_in}
use Rattle.kept.proofs.Layers.Alloc.{measured_on, allocated}
use Rattle.kept.proofs.Layers.Become.{data_page_kept}

pub kept_map_secure : (b : Machine) (M L : List ℕ) (a p map g : ℕ) → Accepted b M L
    → Accepted b (map_secure b M L a p map g).mem (map_secure b M L a p map g).led
unfolding map_secure new_data
kept_map_secure b M L a p map g ok =
    let h = add_page (hash L a) map (words_of M g) in
    let copy = copied M g (b.secure + p) in
    kept_by_call (Accepted b) (map_secure_code b M L a p map g) M L (done (mapped copy b.secure (rec L a 2) map p) (new_data L a p map h)) ok
    (λ z.
    let (al, type, now, pl, was, good, place, out) = passes_map_secure b M L a p map g z in
    let source = frame_in ok g out in
    let target = page_in ok p pl in
    data_page_kept ok al type (λ z. omega arith) p (inl was) map copy
    (allocated ok al type pl was data_page (map ∷ []) (omega arith) (inl now)
    (measured_on ok al type pl was data_page (map ∷ []) 65 h (omega arith)))
    good place (length-copied M g (b.secure + p) source target)
    (λ q k n l. copied_other M g (b.secure + p) source target (b.secure + q) k (λ e. n (omega arith)) l))
