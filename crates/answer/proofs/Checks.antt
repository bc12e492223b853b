-- What a check says when it refuses, and when it passes. Assumes nothing.
use mathlib.Core.Path.{◌≡◌, ap}
use native.Mathlib.Omega.{arith}
use Rattle.std.specs.Prelude.{Result, Ok, Err, IsErrAnd}
use Rattle.answer.specs.declared.refusals.Refusal.{Refusal}
use Rattle.answer.specs.declared.refusals.Refusal.TheVariants.{NoSuchPage, NotFree, NotSpace, WrongState, OwnerNotFinal, IllFormed, SlotTaken, NoTable, NotInsecure, NotThread, IsSuspended, NotSuspended, NotStopped, StillOwns, WrongTime, NotOwnSpare, NotOwnData, IllFitting, BadRecord, NoSuchIndex, AlreadyFree, BadEntry, BadBlock, NotAccepted}
use Rattle.answer.specs.Refusals.{number, number_of}

pub number_some : (e : Refusal) → number e ≡ 0 → ⊥
number_some NoSuchPage z = absurd (omega arith)
number_some NotFree z = absurd (omega arith)
number_some NotSpace z = absurd (omega arith)
number_some WrongState z = absurd (omega arith)
number_some OwnerNotFinal z = absurd (omega arith)
number_some IllFormed z = absurd (omega arith)
number_some SlotTaken z = absurd (omega arith)
number_some NoTable z = absurd (omega arith)
number_some NotInsecure z = absurd (omega arith)
number_some NotThread z = absurd (omega arith)
number_some IsSuspended z = absurd (omega arith)
number_some NotSuspended z = absurd (omega arith)
number_some NotStopped z = absurd (omega arith)
number_some StillOwns z = absurd (omega arith)
number_some WrongTime z = absurd (omega arith)
number_some NotOwnSpare z = absurd (omega arith)
number_some NotOwnData z = absurd (omega arith)
number_some IllFitting z = absurd (omega arith)
number_some BadRecord z = absurd (omega arith)
number_some NoSuchIndex z = absurd (omega arith)
number_some AlreadyFree z = absurd (omega arith)
number_some BadEntry z = absurd (omega arith)
number_some BadBlock z = absurd (omega arith)
number_some NotAccepted z = absurd (omega arith)

-- what `?` hands on of a refusal
pub handed : {A : Type 0} {q : Result A Refusal} {e : Refusal} → IsErrAnd q (λ x. x ≡ e) → q ≡ Err e
handed {q = Ok x} h = absurd h
handed {q = Err x} h = ap Err h

-- a check that passes says 0
pub passed : {r : Result Unit Refusal} {u : Unit} → r ≡ Ok u → number_of r ≡ 0
passed is = ap number_of is
