-- What a record leaves alone, done or refused. Assumes nothing.
use Rattle.std.specs.Prelude.{ℕ, ◌+◌, ◌≤◌, ◌<◌, ◌≡◌, ◌⊎◌, List}
use Rattle.words.specs.Words.{record_words}
use Rattle.machine.specs.declared.Machine.{Machine}
use Rattle.machine.specs.Machine.{most_pages, header_words, map_start, map_words}
use Rattle.ledger.specs.Names.{running_word, free, space, thread, second_level, data_page, building, blocks_word, space_end}
use Rattle.ledger.specs.Ledger.{header, rec, type_of, owner_of, state_of, map_bit}
use Rattle.answer.specs.Refusals.{interrupted, faulted}
use Rattle.accept.specs.Accept.{Accepted}
use Rattle.records.specs.Records.{arg}
use Rattle.batch.specs.Batch.{obey}
use Rattle.promises.specs.Terms.{code_of}

-- record W names page p: by its first argument in calls 2 to 12 and 35 to 37, by its second in calls 2 to 6
pub data Names (W : List ℕ) (p : ℕ) : Type 0 where
  systems : 2 ≤ arg W 0 → arg W 0 ≤ 12 → arg W 1 ≡ p → Names W p
  seconds : 2 ≤ arg W 0 → arg W 0 ≤ 6 → arg W 2 ≡ p → Names W p
  enclaves : 35 ≤ arg W 0 → arg W 0 ≤ 37 → arg W 1 ≡ p → Names W p

-- the pages whose records W may change: those it names, their owners before it (calls 3 to 6 name the owner after it), and by Interrupt the
-- running thread's
pub data MayMove (L W : List ℕ) (p : ℕ) : Type 0 where
  named : Names W p → MayMove L W p
  owns : (q : ℕ) → Names W q → (type_of L q ≡ free → ⊥) → owner_of L q ≡ p → MayMove L W p
  ran : arg W 0 ≡ 39 → header L running_word ≡ p + 1 → MayMove L W p

-- who runs changes by a done 9 or 10, after which the thread named runs, or by a call that ends the run: a done 38, or code 32 or 33
pub data MayRun (b : Machine) (M L W : List ℕ) : Type 0 where
  begins : (arg W 0 ≡ 9) ⊎ (arg W 0 ≡ 10) → code_of (obey b M L W) ≡ 0 → header (obey b M L W).led running_word ≡ arg W 1 + 1 → MayRun b M L W
  exits : arg W 0 ≡ 38 → code_of (obey b M L W) ≡ 0 → header (obey b M L W).led running_word ≡ 0 → MayRun b M L W
  ends : (code_of (obey b M L W) ≡ interrupted) ⊎ (code_of (obey b M L W) ≡ faulted) → header (obey b M L W).led running_word ≡ 0 → MayRun b M L W

-- a page was free and is in use, or was in use and is free
abbrev pub TakenOrFreed : List ℕ → List ℕ → ℕ → Type 0
TakenOrFreed L L' p = ((type_of L p ≡ free) × (type_of L' p ≡ free → ⊥)) ⊎ ((type_of L p ≡ free → ⊥) × (type_of L' p ≡ free))

pub record LeftAlone (b : Machine) (M L W L' : List ℕ) : Type 0 where
  -- records of other pages
  pub records : (p k : ℕ) → p < b.pages → (MayMove L W p → ⊥) → k < record_words → rec L' p k ≡ rec L p k
  -- of a space its state but by Finalise and Stop, and its count of blocks and its measurement once it is not building
  pub state : (a : ℕ) → a < b.pages → type_of L a ≡ space → type_of L' a ≡ space
      → (state_of L' a ≡ state_of L a) ⊎ (((arg W 0 ≡ 8) ⊎ (arg W 0 ≡ 11)) × (arg W 1 ≡ a))
  pub measurement : (a k : ℕ) → a < b.pages → type_of L a ≡ space → type_of L' a ≡ space → (state_of L a ≡ building → ⊥)
      → blocks_word ≤ k → k < space_end → rec L' a k ≡ rec L a k
  -- the header: who runs; the key; bits of the free map; the zeros after it
  pub running : (header L' running_word ≡ header L running_word) ⊎ MayRun b M L W
  pub key : (k : ℕ) → running_word < k → k < map_start → header L' k ≡ header L k
  pub bits : (p : ℕ) → p < most_pages → (TakenOrFreed L L' p → ⊥) → map_bit L' p ≡ map_bit L p
  pub rest : (k : ℕ) → map_start + map_words ≤ k → k < header_words → header L' k ≡ header L k
  -- "While a page keeps its type, a thread's entry, a data page's mapping word and a table's index never change", nor does any page's owner
  pub second : (p : ℕ) → p < b.pages → type_of L' p ≡ type_of L p
      → (type_of L p ≡ thread) ⊎ (type_of L p ≡ second_level) ⊎ (type_of L p ≡ data_page) → rec L' p 2 ≡ rec L p 2
  pub owner : (p : ℕ) → p < b.pages → type_of L' p ≡ type_of L p → owner_of L' p ≡ owner_of L p

abbrev pub NothingElse : Type 0
NothingElse = (b : Machine) (M L W : List ℕ) → Accepted b M L → LeftAlone b M L W (obey b M L W).led
