-- A done call without a value answers no more than that it is done. Assumes nothing.
use Prim.Native.Nat.{ℕ}
use mathlib.Core.Path.{◌≡◌, refl, sym, ap, ◌∙◌}
use mathlib.Core.Bool.{true, true≢false}
use mathlib.Core.Logic.{⊎_elim}
use mathlib.Core.List.{[], ◌∷◌}
use native.Mathlib.Omega.{arith}
use borrow.Author.Tests.{le-leb, lt-leb}
use Rattle.answer.specs.Answer.{Out}
use Rattle.batch.specs.Batch.{obey}
use Rattle.promises.specs.Terms.{code_of}
use Rattle.promises.specs.Jobs.{Silent, Silent.builds, Silent.takes_down, Silent.maps, Silent.stores, DoneSaysNoMore}
use Rattle.promises.proofs.Refused.{silent, Told, refuses, does, ends, told}

tested : {i : ℕ} → Silent i → silent i ≡ true
tested {i} (builds lo hi) = rw (lt-leb i 1 (omega arith), le-leb i 8 hi) refl
tested {i} (takes_down lo hi) = rw (lt-leb i 1 (omega arith), lt-leb i 8 (omega arith), lt-leb i 10 (omega arith), le-leb i 12 hi) refl
tested {i} (maps lo hi) =
    rw (lt-leb i 1 (omega arith), lt-leb i 8 (omega arith), lt-leb i 10 (omega arith))
    (rw (lt-leb i 12 (omega arith), lt-leb i 34 (omega arith), le-leb i 37 hi) refl)
tested (stores e) = rw e refl

pub done_says_no_more : DoneSaysNoMore
done_says_no_more b M L W s = go (obey b M L W) (told b M L W)
  where
    one : (o : Out) (c : ℕ) → o.ans ≡ c ∷ [] → code_of o ≡ 0 → o.ans ≡ 0 ∷ []
    one o c e z = let y : c ≡ 0 = rw e at z in e ∙ ap (λ (n : ℕ). n ∷ []) y

    go : (o : Out) → Told M L W o → code_of o ≡ 0 → o.ans ≡ 0 ∷ []
    go o (refuses c e) z = one o c (rw e refl) z
    go o (does _ x) z = ⊎_elim (λ e. e) (λ f. absurd (true≢false (sym (tested s) ∙ f))) x
    go o (ends c e _) z = one o c e z
