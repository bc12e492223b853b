-- Document 01, the service "Batch": the one relation between what is lent and the outcome. "18 is given exactly when machine numbers or
-- lengths break these rules .. or, for a batch, acceptance says no." Assumes nothing.
use Rattle.std.specs.Prelude.{ℕ, ◌*◌, ◌/◌, ◌%◌, ◌≤◌, ◌≡◌, List, length}
use Rattle.words.specs.Words.{record_words}
use Rattle.machine.specs.declared.Machine.{Machine}
use Rattle.answer.specs.Refusals.{ill_fitting}
use Rattle.accept.specs.Accept.{Accepted}
use Rattle.batch.specs.Batch.{batch}

-- "0 to 512 call records of 32 words and an answer list of equal length", and acceptance passes
abbrev pub most_records : ℕ
most_records = 512

pub record BatchFits (b : Machine) (M L W A : List ℕ) : Type 0 where
  pub whole : length W % record_words ≡ 0
  pub most : length W ≤ record_words * most_records
  pub answers : length A ≡ length W
  pub accepted : Accepted b M L

-- from memory M, ledger L, calls W and answers A it gives r and leaves M', L' and A'
pub data Batched (b : Machine) (M L W A : List ℕ) (r : ℕ) (M' L' A' : List ℕ) : Type 0 where
  done : BatchFits b M L W A → r ≡ 0 → record { ans = A'; mem = M'; led = L' } ≡ batch b (length W / record_words) M L W → Batched b M L W A r M' L' A'
  not_fitting : (BatchFits b M L W A → ⊥) → r ≡ ill_fitting → M' ≡ M → L' ≡ L → A' ≡ A → Batched b M L W A r M' L' A'
