-- MapSecure, where its check refuses nothing: both frames lie in the memory, apart, and the page, once it holds the copy, lies there too.
-- Assumes nothing.
use Prim.Native.Nat.{ℕ, ◌+◌, ◌*◌, ◌^◌, ◌≤◌, ◌<◌}
use mathlib.Core.Path.{◌≡◌, sym, ◌∙◌}
use mathlib.Core.List.{List}
use mathlib.Core.Logic.{⊎_elim}
use native.Mathlib.Omega.{arith}
use lib.ListN.{length}
use Rattle.std.specs.Prelude.{Result, Ok}
use Rattle.machine.specs.declared.Machine.{Machine}
use Rattle.machine.specs.Machine.{frame_words, Lent}
use Rattle.memory.specs.Memory.{copied}
use Rattle.memory.proofs.Frames.{length-copied}
use Rattle.answer.specs.declared.refusals.Refusal.{Refusal}
use Rattle.answer.specs.Refusals.{number_of}
use Rattle.answer.proofs.Checks.{passed}
use Rattle.building.specs.Calls.{map_secure_code}
use Rattle.building.proofs.Laws.{passes_map_secure}

module _ {b : Machine} {M L : List ℕ} {r : Result Unit Refusal} {u : Unit} (ok : Lent b M L) (a p map g : ℕ) (is : r ≡ Ok u)
    (says : number_of r ≡ map_secure_code b M L a p map g) where
  module _ {page : ℕ} (here : page ≡ b.secure + p) where
    pub copy_within : (frame_words * g + frame_words ≤ length M) × (frame_words * page + frame_words ≤ length M) × (g ≡ page → ⊥)
    copy_within =
        let x = passes_map_secure b M L a p map g (sym says ∙ passed is) in
        let s = ok.fits.secure_below in
        (omega (arith, x.7.below), omega (arith, x.3), λ q. ⊎_elim (λ l. omega arith) (λ l. omega (arith, x.3)) x.7.not_secure)

    pub page_within : {M₁ : List ℕ} → M₁ ≡ copied M g page → frame_words * page + frame_words ≤ length M₁
    page_within n = rw n (omega (arith, copy_within.1, length-copied M g page copy_within.0 copy_within.1))

  pub page_fits : b.secure + p < 2 ^ 20
  page_fits = omega (arith, (passes_map_secure b M L a p map g (sym says ∙ passed is)).3, ok.fits.secure_below, ok.fits.frames_high)
