-- Outsiders, who change insecure frames only, keep what acceptance demands. Assumes nothing.
use Prim.Native.Nat.{ℕ, ◌+◌, ◌<◌}
use mathlib.Core.Path.{◌≡◌, refl}
use mathlib.Core.List.{List}
use mathlib.Core.Logic.{⊎_elim}
use native.Mathlib.Omega.{arith}
use lib.ListN.{length}
use Rattle.machine.specs.declared.Machine.{Machine}
use Rattle.machine.specs.Machine.{frame_words, Insecure}
use Rattle.memory.specs.Memory.{frame}
use Rattle.accept.specs.Accept.{Accepted}
use Rattle.kept.proofs.Layers.Contents.{stores_kept}
use Rattle.kept.proofs.Facts.Bridge.{accepted}

pub outsiders_keep : (b : Machine) (M M' L : List ℕ) → length M' ≡ length M
    → ((f k : ℕ) → f < b.frames → (Insecure b f → ⊥) → k < frame_words → frame M' f k ≡ frame M f k) → Accepted b M L → Accepted b M' L
outsiders_keep b M M' L size others ok =
    accepted ok size refl
    (stores_kept ok.rules
    (λ q l _ k kl.
    others (b.secure + q) k (omega (arith, ok.lent.fits.secure_below))
    (λ i. ⊎_elim (λ y. omega arith) (λ y. omega arith) i.not_secure) kl))
