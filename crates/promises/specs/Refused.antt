-- Demand 1: "A refused call inside a list writes only its own answer record, and the list carries on." Assumes nothing.
use Rattle.std.specs.Prelude.{ℕ, suc, ◌≡◌, ◌⊎◌, List, [], take, drop}
use Rattle.words.specs.Words.{record_words, padded}
use Rattle.machine.specs.declared.Machine.{Machine}
use Rattle.answer.specs.Refusals.{ill_fitting, interrupted, faulted}
use Rattle.answer.specs.Answer.{Out}
use Rattle.batch.specs.Batch.{obey, after, batch}
use Rattle.batch.specs.Service.{Batched}
use Rattle.boot.specs.Boot.{Booted}
use Rattle.promises.specs.Terms.{code_of, alone}

-- a refusal is any code but 0 (done) and the two outcomes
pub record Refusal (c : ℕ) : Type 0 where
  pub not_done : c ≡ 0 → ⊥
  pub not_interrupted : c ≡ interrupted → ⊥
  pub not_faulted : c ≡ faulted → ⊥

-- any words, in any state: a refused call leaves memory and ledger, and answers its code then 31 zeros
pub record Unmoved (M L : List ℕ) (o : Out) : Type 0 where
  pub memory : o.mem ≡ M
  pub ledger : o.led ≡ L
  pub answer : padded o.ans ≡ alone (code_of o)

abbrev pub RefusedMovesNothing : Type 0
RefusedMovesNothing = (b : Machine) (M L W : List ℕ) → Refusal (code_of (obey b M L W)) → Unmoved M L (obey b M L W)

-- and the rest of the batch is the batch from the unchanged state
abbrev pub ListCarriesOn : Type 0
ListCarriesOn =
    (b : Machine) (k : ℕ) (M L W : List ℕ) → Refusal (code_of (obey b M L (take record_words W)))
    → batch b (suc k) M L W ≡ after (alone (code_of (obey b M L (take record_words W)))) (batch b k M L (drop record_words W))

-- the outcomes, 32 and 33, hold the number then zeros
abbrev pub OutcomesStandAlone : Type 0
OutcomesStandAlone =
    (b : Machine) (M L W : List ℕ) → (code_of (obey b M L W) ≡ interrupted) ⊎ (code_of (obey b M L W) ≡ faulted)
    → padded (obey b M L W).ans ≡ alone (code_of (obey b M L W))

-- 18 leaves every word that was lent, the answer list included
abbrev pub EighteenMovesNothing : Type 0
EighteenMovesNothing =
    ((b : Machine) (key M L M' L' : List ℕ) → Booted b key M L ill_fitting M' L' → (M' ≡ M) × (L' ≡ L))
    × ((b : Machine) (M L W A M' L' A' : List ℕ) → Batched b M L W A ill_fitting M' L' A' → (M' ≡ M) × (L' ≡ L) × (A' ≡ A))

-- "an empty batch changes nothing"
abbrev pub EmptyMovesNothing : Type 0
EmptyMovesNothing =
    (b : Machine) (M L A M' L' A' : List ℕ) (r : ℕ) → Batched b M L [] A r M' L' A' → (M' ≡ M) × (L' ≡ L) × (A' ≡ A)
