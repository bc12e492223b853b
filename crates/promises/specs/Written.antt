-- The words of memory that a record may write; every other word stays, done or refused. Assumes nothing.
use Rattle.std.specs.Prelude.{ℕ, ◌+◌, ◌/◌, ◌%◌, ◌^◌, ◌<◌, ◌≡◌, List}
use Rattle.machine.specs.declared.Machine.{Machine}
use Rattle.machine.specs.Machine.{frame_words}
use Rattle.mapping.specs.Mapping.{page_bytes}
use Rattle.ledger.specs.Ledger.{first_of, map_of}
use Rattle.memory.specs.Memory.{frame}
use Rattle.answer.specs.Answer.{owner}
use Rattle.accept.specs.Accept.{Accepted}
use Rattle.records.specs.Records.{arg}
use Rattle.batch.specs.Batch.{obey}
use Rattle.promises.specs.Access.{OwnSlot}

-- word k of frame f is the slot of mapping word map in the tables of space a: at bits 12-21 in the table that the first-level page names at
-- bits 22-29
pub record SlotAt (b : Machine) (M L : List ℕ) (a map f k : ℕ) : Type 0 where
  pub table : ℕ
  pub linked : frame M (b.secure + first_of L a) (map / 2 ^ 22 % 2 ^ 8) ≡ table + 1
  pub in_table : f ≡ b.secure + table
  pub at_slot : k ≡ map / 2 ^ 12 % 2 ^ 10

pub data MayWrite (b : Machine) (M L W : List ℕ) (f k : ℕ) : Type 0 where
  -- 4 and 35: the word of that index in the space's first-level page
  links : arg W 0 ≡ 4 → f ≡ b.secure + first_of L (arg W 1) → k ≡ arg W 3 → MayWrite b M L W f k
  own_links : arg W 0 ≡ 35 → f ≡ b.secure + first_of L (owner L) → k ≡ arg W 2 → MayWrite b M L W f k
  -- 6, 7, 36 and 37: the slot of the mapping word
  maps : arg W 0 ≡ 6 → SlotAt b M L (arg W 1) (arg W 3) f k → MayWrite b M L W f k
  shares : arg W 0 ≡ 7 → SlotAt b M L (arg W 1) (arg W 2) f k → MayWrite b M L W f k
  own_maps : arg W 0 ≡ 36 → SlotAt b M L (owner L) (arg W 2) f k → MayWrite b M L W f k
  own_unmaps : arg W 0 ≡ 37 → SlotAt b M L (owner L) (map_of L (arg W 1)) f k → MayWrite b M L W f k
  -- 6, 12 and 37: the page
  fills : arg W 0 ≡ 6 → f ≡ b.secure + arg W 2 → MayWrite b M L W f k
  removes : arg W 0 ≡ 12 → f ≡ b.secure + arg W 1 → MayWrite b M L W f k
  clears : arg W 0 ≡ 37 → f ≡ b.secure + arg W 1 → MayWrite b M L W f k
  -- 42: the word of the address, in the frame of the slot that the running space's own table has for it
  stores : arg W 0 ≡ 42 → (x : ℕ) → OwnSlot b M L (owner L) (arg W 1) x → f ≡ x / page_bytes → k ≡ arg W 1 % page_bytes / 4 → MayWrite b M L W f k

abbrev pub NothingElseWritten : Type 0
NothingElseWritten =
    (b : Machine) (M L W : List ℕ) (f k : ℕ) → Accepted b M L → k < frame_words → (MayWrite b M L W f k → ⊥)
    → frame (obey b M L W).mem f k ≡ frame M f k
