-- A record's form: whose turn it is, and whether the rest is zero. Assumes nothing.
use Prim.Native.Nat.{ℕ, ◌+◌}
use mathlib.Core.Path.{◌≡◌}
use mathlib.Core.Bool.{true, false}
use mathlib.Core.List.{List}
use native.Mathlib.Omega.{arith}
use lib.Dec.{ltb}
use Rattle.words.proofs.Codes.{is, is_not}
use Rattle.ledger.specs.Ledger.{header}
use Rattle.ledger.specs.Names.{running_word}
use Rattle.answer.specs.Answer.{running}
use Rattle.records.specs.Records.{turn_code}

-- what a turn that has come says of who runs
module _ (L : List ℕ) (i : ℕ) where
  pub nobody_runs : ltb i 32 ≡ true → turn_code L i ≡ 0 → header L running_word ≡ 0
  unfolding turn_code
  nobody_runs e turn = is (header L running_word) 0 14 (rw e at turn)

  pub somebody_runs : ltb i 32 ≡ false → turn_code L i ≡ 0 → header L running_word ≡ running L + 1
  unfolding turn_code
  somebody_runs e turn = let n = is_not (header L running_word) 0 14 (rw e at turn) in omega arith
