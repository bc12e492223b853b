-- Document 01, "Ledger": the number of each type of a page and of each state of an address space. Assumes nothing.
use Rattle.std.specs.Prelude.{ℕ, ◌≡◌, ◌≤◌, Result, MatchResult}
use Rattle.ledger.specs.declared.kinds.PageType.{PageType}
use Rattle.ledger.specs.declared.kinds.PageType.TheVariants.{Free, Space, Thread, FirstLevel, SecondLevel, Data, Spare}
use Rattle.ledger.specs.declared.kinds.State.{State}
use Rattle.ledger.specs.declared.kinds.State.TheVariants.{Building, Final, Stopped}
use Rattle.ledger.specs.declared.kinds.NoType.{NoType}
use Rattle.ledger.specs.Names.{types, free, space, thread, first_level, second_level, data_page, spare, building, final, stopped}

abbrev pub type_number : PageType → ℕ
type_number Free = free
type_number Space = space
type_number Thread = thread
type_number FirstLevel = first_level
type_number SecondLevel = second_level
type_number Data = data_page
type_number Spare = spare

abbrev pub state_number : State → ℕ
state_number Building = building
state_number Final = final
state_number Stopped = stopped

-- a word's type, or that it is none
abbrev pub Typed : ℕ → Result PageType NoType → Type 0
Typed w r = MatchResult r (λ t. type_number t ≡ w) (λ e. (e.0 ≡ w) × (types ≤ w))
