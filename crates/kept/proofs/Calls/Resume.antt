-- Call 10, Resume t, keeps what acceptance demands. Assumes nothing.
use Prim.Native.Nat.{ℕ, ◌+◌, ◌-◌}
use mathlib.Core.Path.{◌≡◌, refl, ◌∙◌}
use mathlib.Core.List.{List}
use native.Mathlib.Omega.{arith}
use lib.ListN.{replicate, get_or-replicate}
use Rattle.machine.specs.declared.Machine.{Machine}
use Rattle.ledger.specs.Ledger.{rec, puts, run}
use Rattle.answer.specs.declared.Answer.TheVariants.{Runs}
use Rattle.answer.specs.Answer.{answers}
use Rattle.answer.proofs.Laws.{kept_by_call}
use Rattle.accept.specs.Accept.{Zeros, Accepted}
use Rattle.system.specs.Calls.{resume_code, saved_regs, resume}
use Rattle.system.proofs.Laws.{passes_resume}
use Rattle.kept.proofs.Layers.Rewrite.{word_here, awake_runs, rewrite_kept}

abbrev zeros : List ℕ
zeros = replicate 18 0

pub kept_resume : (b : Machine) (M L : List ℕ) (t : ℕ) → Accepted b M L → Accepted b (resume b M L t).mem (resume b M L t).led
unfolding resume
kept_resume b M L t ok =
    kept_by_call (Accepted b) (resume_code b L t) M L (answers (Runs (saved_regs L t)) M (run (puts L t 3 zeros) (t + 1))) ok
    (λ e.
    let (tl, type, now, _) = passes_resume b L t e in
    let cleared : Zeros (rec (puts L t 3 zeros) t) 3 21
    = λ k lo hi. word_here ok tl type now zeros (omega arith) k lo hi ∙ get_or-replicate {A = ℕ} 18 (k - 3) 0 0 (omega arith) in
    let awake = cleared 3 (omega arith) (omega arith) in
    rewrite_kept ok tl type now zeros (omega arith) (t + 1) (omega arith) (rw (cleared 20 (omega arith) (omega arith)) refl)
    (λ _ k lo hi. cleared k (omega arith) hi)
    (λ u s. let same : t ≡ u = omega arith in rw (← same) (awake_runs ok tl type now zeros (omega arith) awake)))
