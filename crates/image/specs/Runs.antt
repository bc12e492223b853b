-- The runs of a payload, as the code goes through them: words of the ledger, then of the secure frames, then the fill. Assumes nothing.
use Rattle.std.specs.Prelude.{ℕ, ◌-◌, ◌*◌, min, List, length}
use Rattle.words.specs.Words.{paste}
use Rattle.words.specs.Bytes.{word_bytes, little_endian}
use Rattle.machine.specs.declared.Machine.{Machine}
use Rattle.image.specs.Image.{ledger_words, secure_words, payload_words}
use Rattle.image.specs.declared.runs.Runs.{Runs}

-- of block j: the ledger's word that is first and how many there are; the same of the words of the secure frames
unfoldable pub runs_of : Machine → ℕ → Runs
runs_of b j =
    let at : ℕ = payload_words * j in
    let ledger : ℕ = min payload_words (ledger_words b - at) in
    record {
      from = min at (ledger_words b);
      ledger = ledger;
      first = at - ledger_words b;
      frames = min (payload_words - ledger) (secure_words b - (at - ledger_words b));
    }

-- the words ws, as bytes, from word k of the bytes B on
unfoldable pub laid : List ℕ → ℕ → List ℕ → List ℕ
laid B k ws = paste B (word_bytes * k) (word_bytes * length ws) (little_endian ws)
