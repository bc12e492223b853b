-- What a call leaves, the numbers of an answer, and the refusals that several calls share. Assumes nothing.
use Rattle.std.specs.Prelude.{ℕ, zero, suc, ◌+◌, ◌-◌, not, List, [], ◌∷◌, leb, eqb, Option, Some, None, Result, Ok, Err}
use Rattle.words.specs.Words.{pick, when, first}
use Rattle.machine.specs.declared.Machine.{Machine}
use Rattle.mapping.specs.Mapping.{most_tables}
use Rattle.ledger.specs.Ledger.{header, type_of, owner_of, state_of}
use Rattle.ledger.specs.Names.{running_word, free, space, building}
use Rattle.memory.specs.Memory.{frame}
use Rattle.walk.specs.declared.Slot.{Slot}
use Rattle.walk.specs.Walk.{walk}
use Rattle.answer.specs.declared.refusals.Refusal.{Refusal}
use Rattle.answer.specs.declared.Answer.{Answer}
use Rattle.answer.specs.declared.Answer.TheVariants.{Done, Value, Pair, Attested, Runs, Interrupted, Faulted}
use Rattle.answer.specs.Refusals.{number, no_such_page, not_free, not_space, wrong_state, slot_taken, no_table, no_such_index, interrupted, faulted}

-- ---- "An answer record is: code (0 when done), values": the numbers of an answer, for each of its cases
-- .. of a call that nothing refuses
abbrev pub values : Answer → List ℕ
values Done = 0 ∷ []
values (Value v) = 0 ∷ v ∷ []
values (Pair v w) = 0 ∷ v ∷ w ∷ []
values (Attested mac) = 0 ∷ mac
values (Runs regs) = 0 ∷ regs
values Interrupted = interrupted ∷ []
values Faulted = faulted ∷ []

-- .. or that a number refuses
abbrev pub answered : Result Answer ℕ → List ℕ
answered (Ok a) = values a
answered (Err c) = c ∷ []

-- those of the code's answer
abbrev pub numbers : Result Answer Refusal → List ℕ
numbers (Ok a) = answered (Ok a)
numbers (Err e) = answered (Err (number e))

-- ---- what a call leaves: the numbers of its answer, the memory, the ledger
pub record Out : Type 0 where
  pub ans : List ℕ
  pub mem : List ℕ
  pub led : List ℕ

abbrev pub answers : Answer → List ℕ → List ℕ → Out
answers a M L = record { ans = answered (Ok a); mem = M; led = L }

-- done, with no value; done with one
abbrev pub done : List ℕ → List ℕ → Out
done = answers Done

abbrev pub gives : ℕ → List ℕ → List ℕ → Out
gives v = answers (Value v)

-- "A refused call changes nothing beyond its answer record, which holds the number": where no check refuses, the call is done
abbrev pub refused : ℕ → List ℕ → List ℕ → Out
refused c M L = record { ans = answered (Err c); mem = M; led = L }

unfoldable pub unless : ℕ → Out → Out → Out
unless zero x o = o
unless (suc c) x o = x

abbrev pub call : ℕ → List ℕ → List ℕ → Out → Out
call code M L o = unless code (refused code M L) o

-- ---- "checks left to right": the refusals that several calls share
-- "AS means: page ≥ n 1, not an address space 3."
unfoldable pub as_code : Machine → List ℕ → ℕ → ℕ
as_code b L a =
    first
    (when (leb b.pages a) no_such_page
    ∷ when (not (eqb (type_of L a) space)) not_space
    ∷ [])

-- "PG: page ≥ n 1, not free 2."
unfoldable pub pg_code : Machine → List ℕ → ℕ → ℕ
pg_code b L p =
    first
    (when (leb b.pages p) no_such_page
    ∷ when (not (eqb (type_of L p) free)) not_free
    ∷ [])

-- "not building 4", of a page that is an address space
unfoldable pub building_code : Machine → List ℕ → ℕ → ℕ
building_code b L a =
    first
    (as_code b L a
    ∷ when (not (eqb (state_of L a) building)) wrong_state
    ∷ [])

-- ADDR: "no table 8, slot taken 7"; s the first secure frame, f the first-level page
abbrev pub taken_code : Option Slot → ℕ
taken_code None = no_table
taken_code (Some x) = pick (eqb x.word 0) 0 slot_taken

unfoldable pub addr_code : List ℕ → ℕ → ℕ → ℕ → ℕ
addr_code M s f va = taken_code (walk 2 M s f va)

-- "i ≥ 256 21; taken 7"
unfoldable pub index_code : List ℕ → ℕ → ℕ → ℕ → ℕ
index_code M s f i = pick (leb most_tables i) no_such_index (pick (eqb (frame M (s + f) i) 0) 0 slot_taken)

-- ---- "Calls 32-42 act for the running thread's owner."
abbrev pub running : List ℕ → ℕ
running L = header L running_word - 1

abbrev pub owner : List ℕ → ℕ
owner L = owner_of L (running L)
