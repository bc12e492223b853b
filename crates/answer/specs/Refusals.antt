-- Document 01 and the requests: the number of each refusal, by its name, and the codes that end a run. Assumes nothing.
use Rattle.std.specs.Prelude.{ℕ, ◌≡◌, Result, Ok, Err, MatchResult}
use Rattle.answer.specs.declared.refusals.Refusal.{Refusal}
use Rattle.answer.specs.declared.refusals.Refusal.TheVariants.{NoSuchPage, NotFree, NotSpace, WrongState, OwnerNotFinal, IllFormed, SlotTaken, NoTable, NotInsecure, NotThread, IsSuspended, NotSuspended, NotStopped, StillOwns, WrongTime, NotOwnSpare, NotOwnData, IllFitting, BadRecord, NoSuchIndex, AlreadyFree, BadEntry, BadBlock, NotAccepted}
use Rattle.answer.specs.declared.refusals.NoRefusal.{NoRefusal}

-- "page ≥ n 1"
abbrev pub no_such_page : ℕ
no_such_page = 1

-- "not free 2", and two pages that must differ are one
abbrev pub not_free : ℕ
not_free = 2

-- "not an address space 3"
abbrev pub not_space : ℕ
not_space = 3

-- "not building 4"; of AllocSpare "stopped 4"
abbrev pub wrong_state : ℕ
wrong_state = 4

-- "owner not final 5"
abbrev pub owner_not_final : ℕ
owner_not_final = 5

-- "ill-formed 6"; of MapInsecure "ill-formed or execute 6"
abbrev pub ill_formed : ℕ
ill_formed = 6

-- "slot taken 7"
abbrev pub slot_taken : ℕ
slot_taken = 7

-- "no table 8"
abbrev pub no_table : ℕ
no_table = 8

-- "frame not insecure 9"
abbrev pub not_insecure : ℕ
not_insecure = 9

-- "not a thread 10"
abbrev pub not_thread : ℕ
not_thread = 10

-- "suspended 11"
abbrev pub is_suspended : ℕ
is_suspended = 11

-- "not suspended 12"
abbrev pub not_suspended : ℕ
not_suspended = 12

-- "not stopped 13"
abbrev pub not_stopped : ℕ
not_stopped = 13

-- "still owns 14"
abbrev pub still_owns : ℕ
still_owns = 14

-- "15: calls 1-13 while a thread runs, 32-42 while none does"
abbrev pub wrong_time : ℕ
wrong_time = 15

-- "not own spare 16"
abbrev pub not_own_spare : ℕ
not_own_spare = 16

-- "not own data 17"
abbrev pub not_own_data : ℕ
not_own_data = 17

-- "18 is given exactly when machine numbers or lengths break these rules .. or, for a batch, acceptance says no"
abbrev pub ill_fitting : ℕ
ill_fitting = 18

-- "19 comes first: unknown number, or a non-zero word after the arguments"
abbrev pub bad_record : ℕ
bad_record = 19

-- "i ≥ 256 21"
abbrev pub no_such_index : ℕ
no_such_index = 21

-- "free 22"
abbrev pub already_free : ℕ
already_free = 22

-- #103: "InitThread shall answer 23 .. when the entry isn't a multiple of 4 or is at or above 2^30"
abbrev pub bad_entry : ℕ
bad_entry = 23

-- #106, of the reader of images: "otherwise it names the first bad block, or acceptance"
abbrev pub bad_block : ℕ
bad_block = 25

abbrev pub not_accepted : ℕ
not_accepted = 26

-- of Interrupt "code 32", of Fault "code 33"
abbrev pub interrupted : ℕ
interrupted = 32

abbrev pub faulted : ℕ
faulted = 33

-- the number of each of the code's refusals; of a check 0 where it passes
abbrev pub number : Refusal → ℕ
number NoSuchPage = no_such_page
number NotFree = not_free
number NotSpace = not_space
number WrongState = wrong_state
number OwnerNotFinal = owner_not_final
number IllFormed = ill_formed
number SlotTaken = slot_taken
number NoTable = no_table
number NotInsecure = not_insecure
number NotThread = not_thread
number IsSuspended = is_suspended
number NotSuspended = not_suspended
number NotStopped = not_stopped
number StillOwns = still_owns
number WrongTime = wrong_time
number NotOwnSpare = not_own_spare
number NotOwnData = not_own_data
number IllFitting = ill_fitting
number BadRecord = bad_record
number NoSuchIndex = no_such_index
number AlreadyFree = already_free
number BadEntry = bad_entry
number BadBlock = bad_block
number NotAccepted = not_accepted

abbrev pub number_of : Result Unit Refusal → ℕ
number_of (Ok x) = 0
number_of (Err e) = number e

-- a number's refusal, or that it has none
abbrev pub Numbered : ℕ → Result Refusal NoRefusal → Type 0
Numbered w r = MatchResult r (λ e. number e ≡ w) (λ no. (no.0 ≡ w) × ((e : Refusal) → number e ≡ w → ⊥))
