-- Demand 2: "Nothing about an answer is left open." For each service, two outcomes that satisfy its relation are one; when it answers 18; and
-- that a batch is its records, obeyed in order. Assumes nothing.
use Rattle.std.specs.Prelude.{ℕ, zero, suc, ◌+◌, ◌*◌, ◌%◌, ◌≤◌, ◌<◌, ◌≡◌, Bool, true, List, [], length, take, drop}
use Rattle.words.specs.Words.{record_words, padded}
use Rattle.machine.specs.declared.Machine.{Machine}
use Rattle.answer.specs.Answer.{Out}
use Rattle.accept.specs.Accept.{Accepted, Accepts}
use Rattle.batch.specs.Batch.{obey, after, batch}
use Rattle.batch.specs.Service.{Batched}
use Rattle.boot.specs.Boot.{fresh_ledger, fresh_memory, BootFits, Booted}
use Rattle.promises.specs.Terms.{OfMonitor, OfSecure}

abbrev pub BootIsSettled : Type 0
BootIsSettled =
    (b : Machine) (key M L : List ℕ) (r r' : ℕ) (M₁ L₁ M₂ L₂ : List ℕ) → Booted b key M L r M₁ L₁ → Booted b key M L r' M₂ L₂
    → (r ≡ r') × (M₁ ≡ M₂) × (L₁ ≡ L₂)

abbrev pub AcceptanceIsSettled : Type 0
AcceptanceIsSettled = (b : Machine) (M L : List ℕ) (r r' : Bool) → Accepts b M L r → Accepts b M L r' → r ≡ r'

abbrev pub BatchIsSettled : Type 0
BatchIsSettled =
    (b : Machine) (M L W A : List ℕ) (r r' : ℕ) (M₁ L₁ A₁ M₂ L₂ A₂ : List ℕ) → Batched b M L W A r M₁ L₁ A₁ → Batched b M L W A r' M₂ L₂ A₂
    → (r ≡ r') × (M₁ ≡ M₂) × (L₁ ≡ L₂) × (A₁ ≡ A₂)

-- "18 is given exactly when machine numbers or lengths break these rules .. or, for a batch, acceptance says no. Otherwise Boot and a batch
-- answer 0": by the documents' own numbers
pub record Given (b : Machine) (M L : List ℕ) : Type 0 where
  pub frames : (1 ≤ b.frames) × (b.frames ≤ 16384)
  pub pages : (1 ≤ b.pages) × (b.pages ≤ 1024)
  pub monitors : 1 ≤ b.monitors
  pub below : (b.secure + b.pages ≤ b.frames) × (b.monitor + b.monitors ≤ b.frames)
  pub apart : (f : ℕ) → OfSecure b f → OfMonitor b f → ⊥
  pub memory : length M ≡ 1024 * b.frames
  pub ledger : length L ≡ 64 + 32 * b.pages

pub record Asked (b : Machine) (M L W A : List ℕ) : Type 0 where
  pub given : Given b M L
  pub whole : length W % 32 ≡ 0
  pub most : length W ≤ 32 * 512
  pub answers : length A ≡ length W
  pub accepted : Accepted b M L

pub record EighteenExactlyWhen : Type 0 where
  pub boot_done : (b : Machine) (key M L M' L' : List ℕ) (r : ℕ) → Booted b key M L r M' L' → Given b M L → length key ≡ 8 → r ≡ 0
  pub boot_18 : (b : Machine) (key M L M' L' : List ℕ) (r : ℕ) → Booted b key M L r M' L' → (Given b M L × (length key ≡ 8) → ⊥) → r ≡ 18
  pub batch_done : (b : Machine) (M L W A M' L' A' : List ℕ) (r : ℕ) → Batched b M L W A r M' L' A' → Asked b M L W A → r ≡ 0
  pub batch_18 : (b : Machine) (M L W A M' L' A' : List ℕ) (r : ℕ) → Batched b M L W A r M' L' A' → (Asked b M L W A → ⊥) → r ≡ 18

-- "obeys the records in order": the state in which record j of W is obeyed, and that record; where the batch answers 0, each answer record is
-- that record's answer there, and the batch leaves the state after the last
unfoldable pub record_at : List ℕ → ℕ → List ℕ
record_at W j = take record_words (drop (record_words * j) W)

unfoldable pub state_at : Machine → List ℕ → List ℕ → List ℕ → ℕ → Out
state_at b M L W zero = record { ans = []; mem = M; led = L }
state_at b M L W (suc j) = obey b (state_at b M L W j).mem (state_at b M L W j).led (record_at W j)

pub record InOrder (b : Machine) (M L W M' L' A' : List ℕ) (k : ℕ) : Type 0 where
  pub size : length A' ≡ record_words * k
  pub each : (j : ℕ) → j < k → record_at A' j ≡ padded (state_at b M L W (suc j)).ans
  pub memory : M' ≡ (state_at b M L W k).mem
  pub ledger : L' ≡ (state_at b M L W k).led

abbrev pub BatchIsItsRecords : Type 0
BatchIsItsRecords =
    (b : Machine) (M L W A M' L' A' : List ℕ) (k : ℕ) → Batched b M L W A 0 M' L' A' → length W ≡ record_words * k
    → InOrder b M L W M' L' A' k

-- "a batch cut in two gives the same": j records, and then k from where those left the state
abbrev pub CutInTwoIsTheSame : Type 0
CutInTwoIsTheSame =
    (b : Machine) (j k : ℕ) (M L W : List ℕ)
    → batch b (j + k) M L W
    ≡ after (batch b j M L W).ans (batch b k (batch b j M L W).mem (batch b j M L W).led (drop (record_words * j) W))

-- "Acceptance that says no to all fails on a fresh ledger."
abbrev pub FreshGetsAYes : Type 0
FreshGetsAYes =
    (b : Machine) (key M L : List ℕ) (r : Bool) → BootFits b key M L → Accepts b (fresh_memory b M) (fresh_ledger b key) r → r ≡ true
