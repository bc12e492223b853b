-- Demand 3: "Run any calls and events, refused ones too, while outsiders change insecure frames only. The check passes after every one."
-- Assumes nothing.
use Rattle.std.specs.Prelude.{ℕ, ◌<◌, ◌≡◌, List, length}
use Rattle.machine.specs.declared.Machine.{Machine}
use Rattle.machine.specs.Machine.{frame_words, Insecure}
use Rattle.memory.specs.Memory.{frame}
use Rattle.accept.specs.Accept.{Accepted}
use Rattle.batch.specs.Batch.{obey, batch}
use Rattle.batch.specs.Service.{Batched}
use Rattle.boot.specs.Boot.{fresh_ledger, fresh_memory, BootFits, Booted}

-- every record whatever, any words, refused or done
abbrev pub EveryRecordKeeps : Type 0
EveryRecordKeeps = (b : Machine) (M L W : List ℕ) → Accepted b M L → Accepted b (obey b M L W).mem (obey b M L W).led

abbrev pub EveryBatchKeeps : Type 0
EveryBatchKeeps =
    (b : Machine) (k : ℕ) (M L W : List ℕ) → Accepted b M L → Accepted b (batch b k M L W).mem (batch b k M L W).led

-- outsiders change insecure frames only: every other frame is as it was
pub record Outside (b : Machine) (M M' : List ℕ) : Type 0 where
  pub size : length M' ≡ length M
  pub others : (f k : ℕ) → f < b.frames → (Insecure b f → ⊥) → k < frame_words → frame M' f k ≡ frame M f k

abbrev pub OutsidersKeep : Type 0
OutsidersKeep = (b : Machine) (M M' L : List ℕ) → Outside b M M' → Accepted b M L → Accepted b M' L

-- from M₀ and L₀, calls and outside changes in any order and number have led to M and L
pub data History (b : Machine) (M₀ L₀ : List ℕ) : List ℕ → List ℕ → Type 0 where
  begin : History b M₀ L₀ M₀ L₀
  called : (M L W : List ℕ) → History b M₀ L₀ M L → History b M₀ L₀ (obey b M L W).mem (obey b M L W).led
  outside : (M M' L : List ℕ) → History b M₀ L₀ M L → Outside b M M' → History b M₀ L₀ M' L

-- acceptance passes after every step of it
abbrev pub HistoryKeeps : Type 0
HistoryKeeps = (b : Machine) (M₀ L₀ M L : List ℕ) → Accepted b M₀ L₀ → History b M₀ L₀ M L → Accepted b M L

-- what Boot leaves is accepted, whatever the memory held
abbrev pub FreshIsAccepted : Type 0
FreshIsAccepted =
    (b : Machine) (key M L : List ℕ) → BootFits b key M L → Accepted b (fresh_memory b M) (fresh_ledger b key)

-- of the services: where Boot and where the batch answer 0, what they leave is accepted
abbrev pub BootLeavesAccepted : Type 0
BootLeavesAccepted = (b : Machine) (key M L M' L' : List ℕ) → Booted b key M L 0 M' L' → Accepted b M' L'

abbrev pub BatchLeavesAccepted : Type 0
BatchLeavesAccepted = (b : Machine) (M L W A M' L' A' : List ℕ) → Batched b M L W A 0 M' L' A' → Accepted b M' L'
