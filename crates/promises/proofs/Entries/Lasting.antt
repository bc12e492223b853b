-- A thread keeps its type, its owner and its entry until it is removed, along any history. Assumes nothing.
use Prim.Native.Nat.{ℕ, ◌≤◌, ◌<◌}
use mathlib.Core.Path.{◌≡◌, refl, sym, ◌∙◌}
use mathlib.Core.Logic.{◌⊎◌, inl, ⊎_elim}
use mathlib.Core.List.{List}
use native.Mathlib.Omega.{arith}
use Rattle.words.specs.Words.{record_words}
use Rattle.words.proofs.Cases.{same_or}
use Rattle.machine.specs.declared.Machine.{Machine}
use Rattle.ledger.specs.Names.{thread}
use Rattle.ledger.specs.Ledger.{rec, type_of}
use Rattle.answer.specs.Answer.{Out, running}
use Rattle.accept.specs.Accept.{Accepted}
use Rattle.records.specs.Records.{arg}
use Rattle.batch.specs.Batch.{obey}
use Rattle.promises.specs.Terms.{code_of}
use Rattle.promises.specs.Kept.{History, History.begin, History.called, History.outside}
use Rattle.promises.specs.Entries.{Unremoved}
use Rattle.promises.proofs.Kept.{history_keeps}
use Rattle.promises.proofs.Moves.{Same, Making, Moves}
use Rattle.promises.proofs.Moved.{moves}

module _ (b : Machine) (M L W : List ℕ) (t : ℕ) (is : type_of L t ≡ thread) where
  -- page p was another
  other : {p k : ℕ} → type_of L p ≡ k → (k ≡ thread → ⊥) → t ≡ p → ⊥
  other e n z = n (sym e ∙ (rw z at is))

  beside : {L' vs h : List ℕ} {a p k : ℕ} → Making b L L' a p vs k h → Same L L' t
  beside x = x.others t (other x.is_space (λ z. omega arith)) (other x.p_free (λ z. omega arith))

  -- its words below 3, where those are what a call leaves of the thread p
  low : (L' : List ℕ) (p : ℕ) → ((j : ℕ) → (j < 3) ⊎ (21 ≤ j) → j < record_words → rec L' p j ≡ rec L p j)
      → ((q : ℕ) → (q ≡ p → ⊥) → Same L L' q) → (k : ℕ) → k < 3 → rec L' t k ≡ rec L t k
  low L' p words others k l =
      ⊎_elim (λ e. rw e (words k (inl l) (omega arith))) (λ n. others t n k (omega arith)) (same_or t p)

  lasts : (o : Out) → (arg W 0 ≡ 12 → code_of o ≡ 0 → arg W 1 ≡ t → ⊥) → Moves b M L W o → (k : ℕ) → k < 3 → rec o.led t k ≡ rec L t k
  lasts o n (Moves.refused c e) k l = rw e refl
  lasts o n (Moves.quiet i d e) k l = rw e refl
  lasts o n (Moves.founds i d x) k l = x.others t (other x.a_free (λ z. omega arith)) (other x.f_free (λ z. omega arith)) k (omega arith)
  lasts o n (Moves.threads i d s x) k l = beside x k (omega arith)
  lasts o n (Moves.tables i d s x) k l = beside x k (omega arith)
  lasts o n (Moves.spares i d x) k l = beside x k (omega arith)
  lasts o n (Moves.maps i d s x) k l = beside x k (omega arith)
  lasts o n (Moves.closes i d x) k l = x.others t (other x.is_space (λ z. omega arith)) k (omega arith)
  lasts o n (Moves.enters i d x) k l = x.all t k (omega arith)
  lasts o n (Moves.resumes i d x) k l = low o.led (arg W 1) x.words x.others k l
  lasts o n (Moves.stops i d x) k l = x.others t (other x.is_space (λ z. omega arith)) k (omega arith)
  lasts o n (Moves.removes i d x) k l =
      x.others t (λ e. n i d (sym e)) (other x.owner_space (λ z. omega arith)) k (omega arith)
  lasts o n (Moves.own_table i d x) k l = x.others t (other x.was (λ z. omega arith)) k (omega arith)
  lasts o n (Moves.own_maps i d x) k l = x.others t (other x.was (λ z. omega arith)) k (omega arith)
  lasts o n (Moves.own_unmaps i d x) k l = x.others t (other x.was (λ z. omega arith)) k (omega arith)
  lasts o n (Moves.exits i d x) k l = x.all t k (omega arith)
  lasts o n (Moves.faults d x) k l = x.all t k (omega arith)
  lasts o n (Moves.suspends i d x) k l = low o.led (running L) x.words x.others k l

pub lasting : (b : Machine) (M₀ L₀ M L : List ℕ) (t : ℕ) → Accepted b M₀ L₀ → type_of L₀ t ≡ thread → (h : History b M₀ L₀ M L) → Unremoved t h
    → (k : ℕ) → k < 3 → rec L t k ≡ rec L₀ t k
lasting b M₀ L₀ M L t ok is begin u = λ k l. refl
lasting b M₀ L₀ M L t ok is (called M₁ L₁ W h) u =
    let before = lasting b M₀ L₀ M₁ L₁ t ok is h u.0 in
    let now = lasts b M₁ L₁ W t (before 0 (omega arith) ∙ is) (obey b M₁ L₁ W) (λ i d. u.1 (record { asks = i; done = d }))
    (moves b M₁ L₁ W (history_keeps b M₀ L₀ M₁ L₁ ok h)) in
    λ k l. now k l ∙ before k l
lasting b M₀ L₀ M L t ok is (outside M₁ M₂ L₁ h x) u = lasting b M₀ L₀ M₁ L₁ t ok is h u
