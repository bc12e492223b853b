-- What one record does to the ledger, call by call, in words that are read: the law from which the rest of these proofs speak. Assumes nothing.
use Prim.Native.Nat.{ℕ, ◌+◌, ◌≤◌, ◌<◌}
use mathlib.Core.Path.{◌≡◌}
use mathlib.Core.Logic.{◌⊎◌}
use mathlib.Core.List.{List, [], ◌∷◌}
use lib.ListN.{length, get_or}
use Rattle.words.specs.Words.{record_words}
use Rattle.machine.specs.declared.Machine.{Machine}
use Rattle.machine.specs.Machine.{header_words, map_start, map_words}
use Rattle.sha256.specs.Sha256.{H0, compress, absorb, finish}
use Rattle.ledger.specs.Names.{running_word, free, space, thread, first_level, second_level, data_page, spare, building, final, stopped}
use Rattle.ledger.specs.Ledger.{header, rec, type_of, owner_of, state_of, blocks_of, hash}
use Rattle.memory.specs.Memory.{words_of}
use Rattle.enclave.specs.Calls.{top_four}
use Rattle.building.specs.Calls.{thread_block, map_block}
use Rattle.answer.specs.Refusals.{interrupted, faulted}
use Rattle.answer.specs.Answer.{Out, running, owner}
use Rattle.records.specs.Records.{arg, args}
use Rattle.promises.specs.Terms.{code_of}

-- every word of page q's record stays; the record of page q is the words of vs, then zeros
abbrev pub Same : List ℕ → List ℕ → ℕ → Type 0
Same L L' q = (k : ℕ) → k < record_words → rec L' q k ≡ rec L q k

abbrev pub New : List ℕ → ℕ → List ℕ → Type 0
New L' q vs = (k : ℕ) → k < record_words → rec L' q k ≡ get_or vs k 0

-- of the header all but the running word and the free map stays; and the running word too
pub record Head (L L' : List ℕ) : Type 0 where
  pub key : (k : ℕ) → running_word < k → k < map_start → header L' k ≡ header L k
  pub rest : (k : ℕ) → map_start + map_words ≤ k → k < header_words → header L' k ≡ header L k

pub record Calm (L L' : List ℕ) : Type 0 where
  pub head : Head L L'
  pub still : header L' running_word ≡ header L running_word

-- 2: a and f were free; a is a new space, f its first-level page
pub record Founding (b : Machine) (L L' : List ℕ) (a f : ℕ) : Type 0 where
  pub calm : Calm L L'
  pub a_below : a < b.pages
  pub f_below : f < b.pages
  pub a_free : type_of L a ≡ free
  pub f_free : type_of L f ≡ free
  pub a_new : New L' a (space ∷ a ∷ f ∷ building ∷ 1 ∷ 0 ∷ H0)
  pub f_new : New L' f (first_level ∷ a ∷ [])
  pub others : (q : ℕ) → (q ≡ a → ⊥) → (q ≡ f → ⊥) → Same L L' q

-- 3 to 6: p was free and is a page of space a with the words vs; a has k blocks more, and the hash h; its count aside, the rest stays
pub record Making (b : Machine) (L L' : List ℕ) (a p : ℕ) (vs : List ℕ) (k : ℕ) (h : List ℕ) : Type 0 where
  pub calm : Calm L L'
  pub is_space : type_of L a ≡ space
  pub p_below : p < b.pages
  pub p_free : type_of L p ≡ free
  pub new : New L' p vs
  pub blocks : blocks_of L' a ≡ blocks_of L a + k
  pub hashes : hash L' a ≡ h
  pub words : (j : ℕ) → (j < 4) ⊎ (14 ≤ j) → j < record_words → rec L' a j ≡ rec L a j
  pub others : (q : ℕ) → (q ≡ a → ⊥) → (q ≡ p → ⊥) → Same L L' q

-- 8, 11: space a is final with the finished hash; space a is stopped
pub record Closing (L L' : List ℕ) (a : ℕ) : Type 0 where
  pub calm : Calm L L'
  pub is_space : type_of L a ≡ space
  pub was : state_of L a ≡ building
  pub now : state_of L' a ≡ final
  pub hashes : hash L' a ≡ finish (hash L a) (blocks_of L a)
  pub words : (j : ℕ) → (j < 3) ⊎ ((3 < j) × (j < 6)) ⊎ (14 ≤ j) → j < record_words → rec L' a j ≡ rec L a j
  pub others : (q : ℕ) → (q ≡ a → ⊥) → Same L L' q

pub record Stopping (L L' : List ℕ) (a : ℕ) : Type 0 where
  pub calm : Calm L L'
  pub is_space : type_of L a ≡ space
  pub now : state_of L' a ≡ stopped
  pub words : (j : ℕ) → (j ≡ 3 → ⊥) → j < record_words → rec L' a j ≡ rec L a j
  pub others : (q : ℕ) → (q ≡ a → ⊥) → Same L L' q

-- 9, 10: thread t runs; its record stays, or but for its words 3-20
pub record Entering (L L' : List ℕ) (t : ℕ) : Type 0 where
  pub head : Head L L'
  pub runs : header L' running_word ≡ t + 1
  pub all : (q : ℕ) → Same L L' q

pub record Resuming (L L' : List ℕ) (t : ℕ) : Type 0 where
  pub head : Head L L'
  pub runs : header L' running_word ≡ t + 1
  pub is_thread : type_of L t ≡ thread
  pub words : (j : ℕ) → (j < 3) ⊎ (21 ≤ j) → j < record_words → rec L' t j ≡ rec L t j
  pub others : (q : ℕ) → (q ≡ t → ⊥) → Same L L' q

-- 12: p was in use and is free; where it is no space, its owner, a space, has one page less
pub record Removing (b : Machine) (L L' : List ℕ) (p : ℕ) : Type 0 where
  pub calm : Calm L L'
  pub p_below : p < b.pages
  pub used : type_of L p ≡ free → ⊥
  pub new : New L' p []
  pub owner_space : type_of L (owner_of L p) ≡ space
  pub words : (owner_of L p ≡ p → ⊥) → (j : ℕ) → (j ≡ 4 → ⊥) → j < record_words → rec L' (owner_of L p) j ≡ rec L (owner_of L p) j
  pub others : (q : ℕ) → (q ≡ p → ⊥) → (q ≡ owner_of L p → ⊥) → Same L L' q

-- 35 to 37: page p of the running space, of type t, becomes one with the words vs
pub record Turning (b : Machine) (L L' : List ℕ) (p t : ℕ) (vs : List ℕ) : Type 0 where
  pub calm : Calm L L'
  pub p_below : p < b.pages
  pub was : type_of L p ≡ t
  pub new : New L' p vs
  pub others : (q : ℕ) → (q ≡ p → ⊥) → Same L L' q

-- 38, 40, and 41 and 42 that fault: nobody runs, and no record changes
pub record Ending (L L' : List ℕ) : Type 0 where
  pub head : Head L L'
  pub nobody : header L' running_word ≡ 0
  pub all : (q : ℕ) → Same L L' q

-- 39: nobody runs; the thread that ran is suspended with these registers and flags
pub record Suspending (L L' regs : List ℕ) : Type 0 where
  pub head : Head L L'
  pub was : header L running_word ≡ running L + 1
  pub nobody : header L' running_word ≡ 0
  pub is_thread : type_of L (running L) ≡ thread
  pub words : (j : ℕ) → (j < 3) ⊎ (21 ≤ j) → j < record_words → rec L' (running L) j ≡ rec L (running L) j
  pub saved : length regs ≡ 17 → (rec L' (running L) 3 ≡ 1) × ((j : ℕ) → j < 16 → rec L' (running L) (4 + j) ≡ get_or regs j 0)
      × (rec L' (running L) 20 ≡ top_four (get_or regs 16 0))
  pub others : (q : ℕ) → (q ≡ running L → ⊥) → Same L L' q

-- call i is one of those that leave the ledger
abbrev pub Quiet : ℕ → Type 0
Quiet i = (i ≡ 1) ⊎ (i ≡ 7) ⊎ (i ≡ 13) ⊎ (i ≡ 32) ⊎ (i ≡ 33) ⊎ (i ≡ 34) ⊎ (i ≡ 41) ⊎ (i ≡ 42)

pub data Moves (b : Machine) (M L W : List ℕ) (o : Out) : Type 0 where
  refused : (code_of o ≡ 0 → ⊥) → o.led ≡ L → Moves b M L W o
  quiet : Quiet (arg W 0) → code_of o ≡ 0 → o.led ≡ L → Moves b M L W o
  founds : arg W 0 ≡ 2 → code_of o ≡ 0 → Founding b L o.led (arg W 1) (arg W 2) → Moves b M L W o
  threads : arg W 0 ≡ 3 → code_of o ≡ 0 → state_of L (arg W 1) ≡ building
      → Making b L o.led (arg W 1) (arg W 2) (thread ∷ arg W 1 ∷ arg W 3 ∷ []) 1 (compress (hash L (arg W 1)) (thread_block (arg W 3)))
      → Moves b M L W o
  tables : arg W 0 ≡ 4 → code_of o ≡ 0 → state_of L (arg W 1) ≡ building
      → Making b L o.led (arg W 1) (arg W 2) (second_level ∷ arg W 1 ∷ arg W 3 ∷ []) 0 (hash L (arg W 1)) → Moves b M L W o
  spares : arg W 0 ≡ 5 → code_of o ≡ 0
      → Making b L o.led (arg W 1) (arg W 2) (spare ∷ arg W 1 ∷ []) 0 (hash L (arg W 1)) → Moves b M L W o
  maps : arg W 0 ≡ 6 → code_of o ≡ 0 → state_of L (arg W 1) ≡ building
      → Making b L o.led (arg W 1) (arg W 2) (data_page ∷ arg W 1 ∷ arg W 3 ∷ []) 65
      (absorb (compress (hash L (arg W 1)) (map_block (arg W 3))) (words_of M (arg W 4)))
      → Moves b M L W o
  closes : arg W 0 ≡ 8 → code_of o ≡ 0 → Closing L o.led (arg W 1) → Moves b M L W o
  enters : arg W 0 ≡ 9 → code_of o ≡ 0 → Entering L o.led (arg W 1) → Moves b M L W o
  resumes : arg W 0 ≡ 10 → code_of o ≡ 0 → Resuming L o.led (arg W 1) → Moves b M L W o
  stops : arg W 0 ≡ 11 → code_of o ≡ 0 → Stopping L o.led (arg W 1) → Moves b M L W o
  removes : arg W 0 ≡ 12 → code_of o ≡ 0 → Removing b L o.led (arg W 1) → Moves b M L W o
  own_table : arg W 0 ≡ 35 → code_of o ≡ 0 → Turning b L o.led (arg W 1) spare (second_level ∷ owner L ∷ arg W 2 ∷ []) → Moves b M L W o
  own_maps : arg W 0 ≡ 36 → code_of o ≡ 0 → Turning b L o.led (arg W 1) spare (data_page ∷ owner L ∷ arg W 2 ∷ []) → Moves b M L W o
  own_unmaps : arg W 0 ≡ 37 → code_of o ≡ 0 → Turning b L o.led (arg W 1) data_page (spare ∷ owner L ∷ []) → Moves b M L W o
  exits : arg W 0 ≡ 38 → code_of o ≡ 0 → Ending L o.led → Moves b M L W o
  faults : code_of o ≡ faulted → Ending L o.led → Moves b M L W o
  suspends : arg W 0 ≡ 39 → code_of o ≡ interrupted → Suspending L o.led (args W 1 17) → Moves b M L W o
