-- Frames that are shut: the monitor's to everybody, and a secure page to all but the space that owns it. Assumes nothing.
use Prim.Native.Nat.{ℕ, ◌+◌}
use mathlib.Core.Path.{◌≡◌, refl, sym, ◌∙◌}
use mathlib.Core.List.{List}
use mathlib.Core.Logic.{⊎_elim}
use native.Mathlib.Omega.{arith}
use Rattle.machine.specs.declared.Machine.{Machine}
use Rattle.machine.specs.Machine.{Fits}
use Rattle.memory.proofs.Frames.{wiped_same, wiped_other}
use Rattle.system.specs.Calls.{remove}
use Rattle.system.proofs.Laws.{passes_remove}
use Rattle.records.specs.Records.{arg}
use Rattle.calls.specs.Table.{calls, lookup}
use Rattle.batch.specs.Batch.{obey}
use Rattle.kept.proofs.Facts.Bridge.{page_in}
use Rattle.promises.specs.Terms.{OfMonitor}
use Rattle.promises.specs.Shut.{MonitorFramesStay, MonitorFramesUnread, OthersPagesStay, acts_for, RemoveZeroesAlone}
use Rattle.promises.proofs.Opened.{effect}
use Rattle.promises.proofs.Written.{Reach, page, shared, removed, record_touches}
use Rattle.promises.proofs.Shut.Unread.{not_secure, not_insecure_lem, record_alike}
pub mod Unread

-- ---- the monitor's frames
unreached : {b : Machine} {W L' : List ℕ} {a f : ℕ} → Fits b → OfMonitor b f → Reach b W L' a f → ⊥
unreached fits m (page t q i used e) = not_secure fits m i.below e
unreached fits m (shared i) = not_insecure_lem m i
unreached fits m (removed e l z) = not_secure fits m l z

pub monitor_frames_stay : MonitorFramesStay
monitor_frames_stay =
    record {
      records = λ b M L W ok f k m l.
          ⊎_elim (λ e. e) (λ r. absurd (unreached ok.lent.fits m r.0)) ((record_touches b M L W ok).word f k l);
      outsiders = λ b M M' fits x f k m l. x.others f k (omega (arith, m.to, fits.monitor_below)) (not_insecure_lem m) l;
    }

pub monitor_frames_unread : MonitorFramesUnread
monitor_frames_unread b M M' L W ok ok' same =
    let x = record_alike b M M' L W ok ok' same in
    (x.answer, x.ledger, x.memory)

-- ---- what is written is the acting space's after it
pub others_pages_stay : OthersPagesStay
others_pages_stay b M L W p k ok other pl l not_own =
    ⊎_elim (λ e. e) (λ r. absurd (go r.0)) ((record_touches b M L W ok).word (b.secure + p) k l)
  where
    go : Reach b W (obey b M L W).led (acts_for L W) (b.secure + p) → ⊥
    go (page t q i used e) =
        let same : q ≡ p = omega arith in
        ⊎_elim (λ z. used (sym i.type ∙ rw same z)) (λ n. n (rw (← same) i.own)) not_own
    go (shared i) = ⊎_elim (λ z. omega arith) (λ z. omega arith) i.not_secure
    go (removed e _ _) = other e

-- ---- Remove
pub remove_zeroes_alone : RemoveZeroesAlone
unfolding lookup calls remove
remove_zeroes_alone b M L W ok did =
    let p = arg W 1 in
    let (z, e) = effect refl did refl in
    let fits = page_in ok p (passes_remove b L p z).0 in
    rw e (record { zero = wiped_same M (b.secure + p) fits; others = wiped_other M (b.secure + p) fits })
