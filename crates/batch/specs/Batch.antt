-- Document 01: a batch "obeys the records in order". One record, and the batch. Assumes nothing.
use Rattle.std.specs.Prelude.{ℕ, zero, suc, List, [], ◌++◌, take, drop}
use Rattle.words.specs.Words.{record_words, padded}
use Rattle.machine.specs.declared.Machine.{Machine}
use Rattle.answer.specs.Refusals.{bad_record}
use Rattle.answer.specs.Answer.{Out, refused, call}
use Rattle.records.specs.Records.{arg, form_code}
use Rattle.calls.specs.Table.{Found, no_row, the_row, calls, lookup}

-- ---- one record
-- a record W of 32 words. "19 comes first: unknown number, or a non-zero word after the arguments. Then 15", then the call
abbrev pub obey_row : Machine → List ℕ → List ℕ → List ℕ → Found → Out
obey_row b M L W no_row = refused bad_record M L
obey_row b M L W (the_row r) = call (form_code L r.number r.arguments W) M L (r.acts b M L W)

unfoldable pub obey : Machine → List ℕ → List ℕ → List ℕ → Out
obey b M L W = obey_row b M L W (lookup (arg W 0) calls)

-- ---- the batch
-- answers that are given already, and what comes after them
unfoldable pub after : List ℕ → Out → Out
after vs o = record { ans = vs ++ o.ans; mem = o.mem; led = o.led }

-- "An answer record is: code (0 when done), values, zeros to 32 words." k records, each from the state that the one before left
unfoldable pub batch : Machine → ℕ → List ℕ → List ℕ → List ℕ → Out
batch b zero M L W = record { ans = []; mem = M; led = L }
batch b (suc k) M L W =
    let o = obey b M L (take record_words W) in after (padded o.ans) (batch b k o.mem o.led (drop record_words W))
