-- What Boot is for: the key handed in, every page free, every secure word 0, every other frame as it was. Assumes nothing.
use Prim.Native.Nat.{ℕ, suc, ◌+◌, ◌*◌, ◌≤◌, ◌<◌}
use mathlib.Core.Path.{◌≡◌, ap, ◌∙◌}
use mathlib.Core.List.{List}
use mathlib.Core.Logic.{⊎_elim}
use native.Mathlib.Omega.{arith}
use lib.ListN.{length, get_or, length-replicate, get_or-append}
use Rattle.words.proofs.Cases.{lt_or_ge}
use Rattle.words.proofs.Paste.{paste_before, paste_after}
use Rattle.machine.specs.declared.Machine.{Machine}
use Rattle.machine.specs.Machine.{frame_words}
use Rattle.ledger.specs.Ledger.{header, key}
use Rattle.memory.specs.Memory.{frame}
use Rattle.boot.specs.Boot.{fresh_ledger, fresh_memory, BootFits, Booted.done, Booted.not_fitting}
use Rattle.boot.proofs.Fresh.{fresh_running, fresh_rec, fresh_frame}
use Rattle.promises.specs.Terms.{OfSecure}
use Rattle.promises.specs.Jobs.{Fresh, BootIsFor}
use Rattle.promises.proofs.Read.{from_is}

-- the key's words stand where the key is read
module _ (b : Machine) (handed : List ℕ) (e : length handed ≡ 8) where
  key_at : (j : ℕ) → j < 8 → header (fresh_ledger b handed) (suc j) ≡ get_or handed j 0
  unfolding header fresh_ledger
  key_at j l = get_or-append handed _ 0 j (omega arith)

  fresh_key : key (fresh_ledger b handed) ≡ handed
  fresh_key =
      from_is 8 1 (header (fresh_ledger b handed)) handed e
      (λ j l. ap (header (fresh_ledger b handed)) {x = 1 + j} {y = suc j} (omega arith) ∙ key_at j l)

module _ (b : Machine) (M : List ℕ) (l : frame_words * b.secure + frame_words * b.pages ≤ length M) where
  others : (f k : ℕ) → (OfSecure b f → ⊥) → k < frame_words → frame (fresh_memory b M) f k ≡ frame M f k
  unfolding frame fresh_memory
  others f k n m =
      let size = length-replicate {A = ℕ} (frame_words * b.pages) 0 in
      ⊎_elim (λ x. paste_before M (frame_words * b.secure) (frame_words * b.pages) _ l size (frame_words * f + k) (omega arith))
      (λ x.
      ⊎_elim (λ y. absurd (n (record { from = x; to = y })))
      (λ y. paste_after M (frame_words * b.secure) (frame_words * b.pages) _ l size (frame_words * f + k) (omega arith))
      (lt_or_ge f (b.secure + b.pages)))
      (lt_or_ge f b.secure)

made : (b : Machine) (handed M L : List ℕ) → BootFits b handed M L → Fresh b handed M (fresh_memory b M) (fresh_ledger b handed)
made b handed M L f =
    let within : frame_words * b.secure + frame_words * b.pages ≤ length M = omega (arith, f.lent.memory, f.lent.fits.secure_below) in
    record {
      nobody = fresh_running b handed f.has_key_words;
      the_key = fresh_key b handed f.has_key_words;
      all_free = λ p l. fresh_rec b handed f.has_key_words p 0;
      zero = λ p l k. fresh_frame b M within p k l;
      others = λ g k l. others b M within g k;
    }

pub boot_is_for : BootIsFor
boot_is_for b handed M L M' L' (done f e m l) = rw (m, l) (made b handed M L f)
boot_is_for b handed M L M' L' (not_fitting n e m l) = absurd (omega arith)
