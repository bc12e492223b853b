-- A done Resume gives the registers that the Interrupt before it brought, along any history that spares the thread. Assumes nothing.
use Prim.Native.Nat.{ℕ, ◌+◌, ◌<◌}
use mathlib.Core.Path.{◌≡◌, refl, sym, ap, ap₂, ◌∙◌}
use mathlib.Core.Bool.{Bool, true, false, not}
use mathlib.Core.List.{List, [], ◌∷◌, ◌++◌}
use native.Mathlib.Omega.{arith}
use lib.Dec.{eqb}
use lib.ListN.{length, get_or, drop, length-take, length-drop}
use lib.Seq.{get_or-take, get_or-drop}
use Rattle.words.specs.Words.{when, or, list_below, all_zero}
use Rattle.machine.specs.declared.Machine.{Machine}
use Rattle.ledger.specs.Names.{running_word, thread}
use Rattle.ledger.specs.Ledger.{header, rec, type_of, suspended_of}
use Rattle.accept.specs.Accept.{Accepted}
use Rattle.answer.specs.Refusals.{interrupted}
use Rattle.answer.specs.Answer.{Out, unless, call, running}
use Rattle.system.specs.Calls.{saved_regs, resume}
use Rattle.enclave.specs.Calls.{top_four, interrupt}
use Rattle.records.specs.Records.{arg, args, turn_code, form_code}
use Rattle.calls.specs.Table.{calls, lookup}
use Rattle.batch.specs.Batch.{obey}
use Rattle.batch.proofs.Obeyed.{parts}
use Rattle.promises.specs.Terms.{code_of, Did}
use Rattle.promises.specs.Kept.{History, History.begin, History.called, History.outside}
use Rattle.promises.specs.Jobs.{Spared, ResumeIsFor}
use Rattle.promises.proofs.Read.{from_is}
use Rattle.promises.proofs.Kept.{every_record_keeps, history_keeps}
use Rattle.promises.proofs.Moves.{Same, Making, Moves}
use Rattle.promises.proofs.Moved.{moves}
use Rattle.promises.proofs.Moved.System.{resuming}
use Rattle.promises.proofs.Opened.{row_is, effect}
use Rattle.promises.proofs.Jobs.Interrupt.{suspended}

-- ---- a suspended thread's record stays, but by Resume and Remove of it
module _ (b : Machine) (M L W : List ℕ) (t : ℕ) (ok : Accepted b M L) (is : type_of L t ≡ thread) (asleep : suspended_of L t ≡ 1) where
  not_it : {p k : ℕ} → type_of L p ≡ k → (k ≡ thread → ⊥) → t ≡ p → ⊥
  not_it e n z = n (sym e ∙ (rw z at is))

  not_made : {L' vs h : List ℕ} {a p k : ℕ} → Making b L L' a p vs k h → Same L L' t
  not_made x = x.others t (not_it x.is_space (λ z. omega arith)) (not_it x.p_free (λ z. omega arith))

  sleeps_on : (o : Out) → (arg W 0 ≡ 10 → code_of o ≡ 0 → arg W 1 ≡ t → ⊥) → (arg W 0 ≡ 12 → code_of o ≡ 0 → arg W 1 ≡ t → ⊥)
      → Moves b M L W o → Same L o.led t
  sleeps_on o n n' (Moves.refused c e) = rw e (λ j _. refl)
  sleeps_on o n n' (Moves.quiet i d e) = rw e (λ j _. refl)
  sleeps_on o n n' (Moves.founds i d x) = x.others t (not_it x.a_free (λ z. omega arith)) (not_it x.f_free (λ z. omega arith))
  sleeps_on o n n' (Moves.threads i d s x) = not_made x
  sleeps_on o n n' (Moves.tables i d s x) = not_made x
  sleeps_on o n n' (Moves.spares i d x) = not_made x
  sleeps_on o n n' (Moves.maps i d s x) = not_made x
  sleeps_on o n n' (Moves.closes i d x) = x.others t (not_it x.is_space (λ z. omega arith))
  sleeps_on o n n' (Moves.enters i d x) = x.all t
  sleeps_on o n n' (Moves.resumes i d x) = x.others t (λ e. n i d (sym e))
  sleeps_on o n n' (Moves.stops i d x) = x.others t (not_it x.is_space (λ z. omega arith))
  sleeps_on o n n' (Moves.removes i d x) = x.others t (λ e. n' i d (sym e)) (not_it x.owner_space (λ z. omega arith))
  sleeps_on o n n' (Moves.own_table i d x) = x.others t (not_it x.was (λ z. omega arith))
  sleeps_on o n n' (Moves.own_maps i d x) = x.others t (not_it x.was (λ z. omega arith))
  sleeps_on o n n' (Moves.own_unmaps i d x) = x.others t (not_it x.was (λ z. omega arith))
  sleeps_on o n n' (Moves.exits i d x) = x.all t
  sleeps_on o n n' (Moves.faults d x) = x.all t
  sleeps_on o n n' (Moves.suspends i d x) =
      x.others t (λ e. omega (arith, rw (← e) at (ok.rules.header.runs (running L) x.was).awake, asleep))

sleeps : (b : Machine) (M₀ L₀ M L : List ℕ) (t : ℕ) → Accepted b M₀ L₀ → type_of L₀ t ≡ thread → suspended_of L₀ t ≡ 1
    → (h : History b M₀ L₀ M L) → Spared t h → Same L₀ L t
sleeps b M₀ L₀ M L t ok is asleep begin s = λ j _. refl
sleeps b M₀ L₀ M L t ok is asleep (called M₁ L₁ W h) s =
    let here = history_keeps b M₀ L₀ M₁ L₁ ok h in
    let before = sleeps b M₀ L₀ M₁ L₁ t ok is asleep h s.0 in
    let now = sleeps_on b M₁ L₁ W t here (before 0 (omega arith) ∙ is) (before 3 (omega arith) ∙ asleep) (obey b M₁ L₁ W)
    (λ i d. s.1 (record { asks = i; done = d })) (λ i d. s.2 (record { asks = i; done = d })) (moves b M₁ L₁ W here) in
    λ j l. now j l ∙ before j l
sleeps b M₀ L₀ M L t ok is asleep (outside M₁ M₂ L₁ h x) s = sleeps b M₀ L₀ M₁ L₁ t ok is asleep h s

-- ---- Interrupt: 32 is no code of a record's form
passes_form : (t u : Bool) (M L : List ℕ) (o : Out) → code_of (call (or (when t 19) (when u 15)) M L o) ≡ interrupted
    → call (or (when t 19) (when u 15)) M L o ≡ o
unfolding or unless
passes_form true u M L o e = absurd (omega arith)
passes_form false true M L o e = absurd (omega arith)
passes_form false false M L o e = refl

interrupts : (b : Machine) (M L W : List ℕ) → arg W 0 ≡ 39 → code_of (obey b M L W) ≡ interrupted → obey b M L W ≡ interrupt M L (args W 1 17)
unfolding lookup calls form_code turn_code
interrupts b M L W i c =
    let x = row_is refl b M L W i in
    x ∙ passes_form (not (all_zero (drop 18 W))) (eqb (header L running_word) 0) M L (interrupt M L (args W 1 17)) (rw x at c)

-- ---- Resume: the registers that the thread holds
holds : (L vs : List ℕ) (t f : ℕ) → length vs ≡ 16 → ((j : ℕ) → j < 16 → rec L t (4 + j) ≡ get_or vs j 0) → rec L t 20 ≡ f
    → saved_regs L t ≡ vs ++ (f ∷ [])
unfolding list_below
holds L vs t f l e g = ap₂ (λ (ws : List ℕ) (w : ℕ). ws ++ (w ∷ [])) (from_is 16 4 (rec L t) vs l e) g

resumed : (b : Machine) (M L X : List ℕ) → Accepted b M L → Did b M L X 10
    → (header (obey b M L X).led running_word ≡ arg X 1 + 1) × ((obey b M L X).ans ≡ 0 ∷ saved_regs L (arg X 1))
unfolding lookup calls resume
resumed b M L X ok d =
    let (z, e) = effect refl d refl in
    (rw e (resuming (arg X 1) ok z).runs, (parts e).2)

pub resume_is_for : ResumeIsFor
resume_is_for b M L W M' L' X t ok long runs i c h spared d e =
    let L₁ = (obey b M L W).led in
    let (is, saves) = suspended b M L W t ok long runs (interrupts b M L W i c) in
    let started = every_record_keeps b M L W ok in
    let same = sleeps b (obey b M L W).mem L₁ M' L' t started is saves.asleep h spared in
    let (now, ans) = resumed b M' L' X (history_keeps b (obey b M L W).mem L₁ M' L' started h) d in
    let holding = holds L' (args W 1 16) t (top_four (arg W 17)) (simp (length-take, length-drop) (omega arith))
    (λ j l. same (4 + j) (omega arith) ∙ saves.saved j l ∙ sym (get_or-take 16 (drop 1 W) j 0 l ∙ get_or-drop 1 W j 0))
    (same 20 (omega arith) ∙ saves.flags) in
    record { runs = rw e at now; registers = ans ∙ ap (λ (ws : List ℕ). 0 ∷ ws) (rw (← e) at holding) }
