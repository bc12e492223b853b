-- Document 01: "call records of 32 words", and what is asked of each before its call: "19 comes first .. Then 15". Assumes nothing.
use Rattle.std.specs.Prelude.{ℕ, ◌+◌, not, List, [], ◌∷◌, get_or, take, drop, eqb, ltb}
use Rattle.words.specs.Words.{pick, when, first, all_zero}
use Rattle.ledger.specs.Names.{running_word}
use Rattle.ledger.specs.Ledger.{header}
use Rattle.answer.specs.Refusals.{wrong_time, bad_record}

-- word k of a record W, 0 being the call's number; and n of its words from k on
abbrev pub arg : List ℕ → ℕ → ℕ
arg W k = get_or W k 0

abbrev pub args : List ℕ → ℕ → ℕ → List ℕ
args W k n = take n (drop k W)

-- calls below this number are the system's, the others the enclave's
abbrev pub enclave_first : ℕ
enclave_first = 32

-- "Then 15: calls 1-13 while a thread runs, 32-42 while none does."
unfoldable pub turn_code : List ℕ → ℕ → ℕ
turn_code L i = when (pick (ltb i enclave_first) (not (eqb (header L running_word) 0)) (eqb (header L running_word) 0)) wrong_time

-- 19 for "a non-zero word after the arguments", then 15
unfoldable pub form_code : List ℕ → ℕ → ℕ → List ℕ → ℕ
form_code L i k W =
    first
    (when (not (all_zero (drop (1 + k) W))) bad_record
    ∷ turn_code L i
    ∷ [])
