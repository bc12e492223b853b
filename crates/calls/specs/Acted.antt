-- The table as the code looks into it: each call's number, how many arguments it has and what its record does. A reader need not believe
-- these: a record's own contract cites `obey`. Assumes nothing.
use Rattle.std.specs.Prelude.{ℕ, List, ◌≡◌, Result, MatchResult}
use Rattle.machine.specs.declared.Machine.{Machine}
use Rattle.answer.specs.Refusals.{bad_record}
use Rattle.answer.specs.Answer.{Out, refused}
use Rattle.calls.specs.declared.call.Call.{Call}
use Rattle.calls.specs.declared.call.Call.TheVariants.{GetPhysPages, InitAddrSpace, InitThread, InitTable, AllocSpare, MapSecure, MapInsecure, Finalise, Enter, Resume, Stop, Remove, FreePages, GetRandom, Attest, Verify, SpareTable, MapData, UnmapData, Exit, Interrupt, Fault, Load, Store}
use Rattle.calls.specs.declared.call.NoCall.{NoCall}
use Rattle.calls.specs.Table.{Row, Found, no_row, the_row, calls, lookup}

-- what `some` makes of the row that is found, `none` where there is none
abbrev pub on_row : {A : Type 0} → A → (Row → A) → Found → A
on_row none some no_row = none
on_row none some (the_row r) = some r

unfoldable pub found : {A : Type 0} → ℕ → List Row → A → (Row → A) → A
found i rs none some = on_row none some (lookup i rs)

abbrev pub call_number : Call → ℕ
call_number GetPhysPages = 1
call_number InitAddrSpace = 2
call_number InitThread = 3
call_number InitTable = 4
call_number AllocSpare = 5
call_number MapSecure = 6
call_number MapInsecure = 7
call_number Finalise = 8
call_number Enter = 9
call_number Resume = 10
call_number Stop = 11
call_number Remove = 12
call_number FreePages = 13
call_number GetRandom = 32
call_number Attest = 33
call_number Verify = 34
call_number SpareTable = 35
call_number MapData = 36
call_number UnmapData = 37
call_number Exit = 38
call_number Interrupt = 39
call_number Fault = 40
call_number Load = 41
call_number Store = 42

-- a number's call, or that it is no row's
abbrev pub Called : ℕ → Result Call NoCall → Type 0
Called i r = MatchResult r (λ c. call_number c ≡ i) (λ no. (no.0 ≡ i) × (lookup i calls ≡ no_row))

-- how many arguments a call has, and what a record of it does
unfoldable pub arguments_of : Call → ℕ
arguments_of c = found (call_number c) calls 0 (λ r. r.arguments)

unfoldable pub acted : Machine → List ℕ → List ℕ → List ℕ → Call → Out
acted b M L W c = found (call_number c) calls (refused bad_record M L) (λ r. r.acts b M L W)
