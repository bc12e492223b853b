-- The words in which the promises speak of a record and of who runs. Assumes nothing.
use Rattle.std.specs.Prelude.{ℕ, ◌+◌, ◌≤◌, ◌<◌, ◌≡◌, Bool, List, ◌∷◌, get_or, replicate}
use Rattle.std.proofs.Math.Option.{Option}
use Rattle.machine.specs.declared.Machine.{Machine}
use Rattle.ledger.specs.Names.{running_word}
use Rattle.ledger.specs.Ledger.{header, owner_of, first_of}
use Rattle.walk.specs.Walk.{slot_for}
use Rattle.answer.specs.Answer.{Out}
use Rattle.records.specs.Records.{arg}
use Rattle.batch.specs.Batch.{obey}

-- the number that an answer begins with, and the record that holds it and then zeros
abbrev pub code_of : Out → ℕ
code_of o = get_or o.ans 0 0

abbrev pub alone : ℕ → List ℕ
alone c = c ∷ replicate 31 0

-- record W asks for call i, and the call is done
pub record Did (b : Machine) (M L W : List ℕ) (i : ℕ) : Type 0 where
  pub asks : arg W 0 ≡ i
  pub done : code_of (obey b M L W) ≡ 0

-- a thread of space a runs
pub record Running (L : List ℕ) (a : ℕ) : Type 0 where
  pub page : ℕ
  pub word : header L running_word ≡ page + 1
  pub own : owner_of L page ≡ a

-- what space a finds at address v, for a store or not: none, or the slot's word
abbrev pub finds : Machine → List ℕ → List ℕ → ℕ → ℕ → Bool → Option ℕ
finds b M L a v write = slot_for M b.secure (first_of L a) v write

-- frame f is one of the monitor's frames; and one of the secure frames: by the machine's numbers
pub record OfMonitor (b : Machine) (f : ℕ) : Type 0 where
  pub from : b.monitor ≤ f
  pub to : f < b.monitor + b.monitors

pub record OfSecure (b : Machine) (f : ℕ) : Type 0 where
  pub from : b.secure ≤ f
  pub to : f < b.secure + b.pages
