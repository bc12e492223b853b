-- Parts of a batch as the code takes it: a batch with some of its records obeyed. A reader need not believe these: the batch's own contract
-- cites `batch`. Assumes nothing.
use Rattle.std.specs.Prelude.{ℕ, ◌+◌, ◌-◌, ◌*◌, List, ◌++◌, take, drop}
use Rattle.words.specs.Words.{record_words, padded}
use Rattle.machine.specs.declared.Machine.{Machine}
use Rattle.answer.specs.Answer.{Out}
use Rattle.batch.specs.Batch.{obey, after, batch}

-- record j of the list W
abbrev pub record_of : List ℕ → ℕ → List ℕ
record_of W j = take record_words (drop (record_words * j) W)

-- record j obeyed, with its answer in its place among the answers A
unfoldable pub turned : Machine → List ℕ → List ℕ → List ℕ → List ℕ → ℕ → Out
turned b M L W A j =
    let o = obey b M L (record_of W j) in
    record {
      ans = take (record_words * j) A ++ (padded o.ans ++ drop (record_words * j + record_words) A);
      mem = o.mem;
      led = o.led;
    }

-- a batch of k records with j of them done: the answers so far, then the rest from where the state is
unfoldable pub so_far : Machine → ℕ → ℕ → List ℕ → List ℕ → List ℕ → List ℕ → Out
so_far b k j M L W A = after (take (record_words * j) A) (batch b (k - j) M L (drop (record_words * j) W))
