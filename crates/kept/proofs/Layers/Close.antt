-- A space that owns no other page becomes free: call 12. Assumes nothing.
use Prim.Native.Nat.{ℕ, ◌+◌, ◌<◌}
use mathlib.Core.Path.{◌≡◌, refl, sym, ap, ◌∙◌}
use mathlib.Core.List.{List}
use mathlib.Core.Logic.{⊎_elim, inl, inr}
use native.Mathlib.Omega.{arith}
use Rattle.words.proofs.Cases.{same_or}
use Rattle.words.proofs.Sums.{sum_ge}
use Rattle.machine.specs.declared.Machine.{Machine}
use Rattle.ledger.specs.Names.{running_word, free, space}
use Rattle.ledger.specs.Ledger.{header, rec, vacate}
use Rattle.ledger.proofs.Effects.{length-vacate}
use Rattle.memory.specs.Memory.{frame, wiped}
use Rattle.memory.proofs.Frames.{length-wiped}
use Rattle.accept.specs.Accept.{PageOk, tally, counted, Accepted}
use Rattle.accept.proofs.Sums.{tally_at}
use Rattle.kept.proofs.Facts.Sums.{counted_high}
use Rattle.kept.proofs.Facts.Layouts.{free_page}
use Rattle.kept.proofs.Layers.Frame.{Step, step_kept}
use Rattle.kept.proofs.Facts.Bridge.{exact, page_in, is_space, accepted}
use Rattle.kept.proofs.Layers.Vacate.{Vacated, vacated}

module _ {b : Machine} {M L : List ℕ} (ok : Accepted b M L) (nobody : header L running_word ≡ 0) {p : ℕ} (pl : p < b.pages)
    (type : rec L p 0 ≡ space) (none : rec L p 4 ≡ 0) where
  done : Vacated b M L p
  done = vacated ok nobody pl (exact ok) (λ z. omega arith) (λ _ _. refl)

  free_now : rec (vacate L p) p 0 ≡ free
  free_now = done.gone 0 (omega arith) (omega arith)

  -- a page of p's would be in its count
  no_other : (q : ℕ) → q < b.pages → (q ≡ p → ⊥) → (rec L q 0 ≡ free → ⊥) → rec L q 1 ≡ p → ⊥
  no_other q l n used own =
      ⊎_elim (λ e. n (sym ((ok.rules.pages q l).layout.is_space e).itself ∙ own))
      (λ ne.
      let one = tally_at counted (rec L) p q own ∙ counted_high (rec L q 0) (omega arith) in
      omega (arith, sum_ge b.pages q (tally counted (rec L) p) l, (ok.rules.spaces p pl type).count))
      (same_or (rec L q 0) space)

  page : PageOk b (rec (vacate L p)) (frame (wiped M (b.secure + p))) p
  page = free_page done.gone done.blank

  step : Step b (rec L) (rec (vacate L p)) (frame M) (frame (wiped M (b.secure + p))) p
  step =
      record {
        each = λ q l.
            ⊎_elim (λ e. rw e (inr (inr (is_space ok pl type).own, inl free_now, page)))
            (λ n. inl (record { words = done.others q n; memory = done.memory q n })) (same_or q p);
        alive = λ q l nz own.
            ⊎_elim (λ e. absurd (nz (ap (λ (y : ℕ). rec (vacate L p) y 0) e ∙ free_now)))
            (λ n. absurd (no_other q l n (λ z. nz (done.others q n 0 (omega arith) ∙ z)) (sym (done.others q n 1 (omega arith)) ∙ own)))
            (same_or q p);
        self = λ e. absurd (omega (arith, free_now));
      }

  pub closed_kept : Accepted b (wiped M (b.secure + p)) (vacate L p)
  closed_kept =
      accepted ok (length-wiped M (b.secure + p) (page_in ok p pl)) (length-vacate L p) (step_kept step ok.rules done.head)
