-- Frames that are shut, by the machine's numbers: the monitor's to everybody, and a secure page to all but the space that owns it. Assumes
-- nothing.
use Rattle.std.specs.Prelude.{ℕ, ◌+◌, ◌<◌, ◌≡◌, ◌⊎◌, List, eqb, length}
use Rattle.words.specs.Words.{pick}
use Rattle.machine.specs.declared.Machine.{Machine}
use Rattle.machine.specs.Machine.{Fits, frame_words}
use Rattle.ledger.specs.Names.{running_word, free}
use Rattle.ledger.specs.Ledger.{header, type_of, owner_of}
use Rattle.memory.specs.Memory.{frame}
use Rattle.answer.specs.Answer.{owner}
use Rattle.accept.specs.Accept.{Accepted}
use Rattle.records.specs.Records.{arg}
use Rattle.batch.specs.Batch.{obey}
use Rattle.promises.specs.Terms.{Did, OfMonitor}
use Rattle.promises.specs.Kept.{Outside}

-- the frames m to m+k-1 keep every word
abbrev pub MonitorsSame : Machine → List ℕ → List ℕ → Type 0
MonitorsSame b M M' = (f k : ℕ) → OfMonitor b f → k < frame_words → frame M' f k ≡ frame M f k

-- no record and no outsider writes them
pub record MonitorFramesStay : Type 0 where
  pub records : (b : Machine) (M L W : List ℕ) → Accepted b M L → MonitorsSame b M (obey b M L W).mem
  pub outsiders : (b : Machine) (M M' : List ℕ) → Fits b → Outside b M M' → MonitorsSame b M M'

-- two memories that differ only there
pub record SameBesides (b : Machine) (M M' : List ℕ) : Type 0 where
  pub size : length M' ≡ length M
  pub others : (f k : ℕ) → f < b.frames → (OfMonitor b f → ⊥) → k < frame_words → frame M' f k ≡ frame M f k

-- no record reads them: the answer, the ledger and the other frames are the same
abbrev pub MonitorFramesUnread : Type 0
MonitorFramesUnread =
    (b : Machine) (M M' L W : List ℕ) → Accepted b M L → Accepted b M' L → SameBesides b M M'
    → ((obey b M' L W).ans ≡ (obey b M L W).ans) × ((obey b M' L W).led ≡ (obey b M L W).led)
    × SameBesides b (obey b M L W).mem (obey b M' L W).mem

-- the space for which a record acts: the one that it names, or that runs
abbrev pub acts_for : List ℕ → List ℕ → ℕ
acts_for L W = pick (eqb (header L running_word) 0) (arg W 1) (owner L)

-- no record but Remove writes a secure page that after it is free, or owned by another space than the one for which it acts
abbrev pub OthersPagesStay : Type 0
OthersPagesStay =
    (b : Machine) (M L W : List ℕ) (p k : ℕ) → Accepted b M L → (arg W 0 ≡ 12 → ⊥) → p < b.pages → k < frame_words
    → (type_of (obey b M L W).led p ≡ free) ⊎ (owner_of (obey b M L W).led p ≡ acts_for L W → ⊥)
    → frame (obey b M L W).mem (b.secure + p) k ≡ frame M (b.secure + p) k

-- Remove p zeroes page p alone: every other frame keeps its words
pub record ZeroedAlone (b : Machine) (M M' : List ℕ) (p : ℕ) : Type 0 where
  pub zero : (k : ℕ) → k < frame_words → frame M' (b.secure + p) k ≡ 0
  pub others : (f k : ℕ) → (f ≡ b.secure + p → ⊥) → k < frame_words → frame M' f k ≡ frame M f k

abbrev pub RemoveZeroesAlone : Type 0
RemoveZeroesAlone =
    (b : Machine) (M L W : List ℕ) → Accepted b M L → Did b M L W 12 → ZeroedAlone b M (obey b M L W).mem (arg W 1)
