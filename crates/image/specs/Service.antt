-- Request #106, the services: each one relation between what is lent and the outcome, "with 18 as for Boot". Assumes nothing.
use Rattle.std.specs.Prelude.{ℕ, ◌+◌, ◌≤◌, ◌<◌, ◌≡◌, List, eqb, length, set}
use Rattle.words.specs.Words.{pick}
use Rattle.words.specs.Bytes.{word_at}
use Rattle.machine.specs.declared.Machine.{Machine}
use Rattle.machine.specs.Machine.{Fits, Lent}
use Rattle.answer.specs.Refusals.{ill_fitting, bad_block, not_accepted}
use Rattle.accept.specs.Accept.{Accepted}
use Rattle.image.specs.Image.{number_at, block_bytes, total, block_of}
use Rattle.image.specs.Reader.{Good, with_block, ledger_of, memory_of, progress_words, answer_word, came_word, number_word, answer_of, came_of, number_of}

-- ---- how many blocks an image of this box has; 0 where its numbers do not fit
pub data BlocksCounted (b : Machine) (r : ℕ) : Type 0 where
  done : Fits b → r ≡ total b → BlocksCounted b r
  not_fitting : (Fits b → ⊥) → r ≡ 0 → BlocksCounted b r

-- ---- the writer, a block at a time: from memory M and ledger L, the list B becomes block j of image `number`
pub record WriteFits (b : Machine) (M L : List ℕ) (j : ℕ) (B : List ℕ) : Type 0 where
  pub lent : Lent b M L
  pub index : j < total b
  pub size : length B ≡ block_bytes

pub data BlockWritten (b : Machine) (M L : List ℕ) (number j : ℕ) (B : List ℕ) (r : ℕ) (B' : List ℕ) : Type 0 where
  done : WriteFits b M L j B → r ≡ 0 → B' ≡ block_of b M L number j → BlockWritten b M L number j B r B'
  not_fitting : (WriteFits b M L j B → ⊥) → r ≡ ill_fitting → B' ≡ B → BlockWritten b M L number j B r B'

-- ---- the reader: a spare memory M and ledger L, and the progress words P
pub record ReadFits (b : Machine) (M L P : List ℕ) : Type 0 where
  pub lent : Lent b M L
  pub progress : length P ≡ progress_words

-- the answer that progress holds, once it is not 0: acceptance's or, whatever else stands there, a bad block's
abbrev pub told : ℕ → ℕ
told a = pick (eqb a not_accepted) not_accepted bad_block

-- one block B: good; bad, and word 1 of progress then names its place; the answer of before again; 18
pub data BlockRead (b : Machine) (M L P B : List ℕ) (r : ℕ) (M' L' P' : List ℕ) : Type 0 where
  good : ReadFits b M L P → answer_of P ≡ 0 → Good b (came_of P) (number_of P) B → r ≡ 0
      → M' ≡ memory_of b M (with_block b M L (came_of P) B)
      → L' ≡ ledger_of b (with_block b M L (came_of P) B)
      → P' ≡ set (set P came_word (came_of P + 1)) number_word (word_at B number_at)
      → BlockRead b M L P B r M' L' P'
  bad : ReadFits b M L P → answer_of P ≡ 0 → (Good b (came_of P) (number_of P) B → ⊥) → r ≡ bad_block → M' ≡ M → L' ≡ L → P' ≡ set P answer_word bad_block
      → BlockRead b M L P B r M' L' P'
  over : ReadFits b M L P → (answer_of P ≡ 0 → ⊥) → r ≡ told (answer_of P) → M' ≡ M → L' ≡ L → P' ≡ P → BlockRead b M L P B r M' L' P'
  not_fitting : (ReadFits b M L P → ⊥) → r ≡ ill_fitting → M' ≡ M → L' ≡ L → P' ≡ P → BlockRead b M L P B r M' L' P'

-- no more comes: a yes; a block is missing, and word 1 of progress names its place; acceptance's no; the answer of before again; 18
pub data ReadingEnded (b : Machine) (M L P : List ℕ) (r : ℕ) (P' : List ℕ) : Type 0 where
  yes : ReadFits b M L P → answer_of P ≡ 0 → total b ≤ came_of P → Accepted b M L → r ≡ 0 → P' ≡ P → ReadingEnded b M L P r P'
  missing : ReadFits b M L P → answer_of P ≡ 0 → came_of P < total b → r ≡ bad_block → P' ≡ set P answer_word bad_block → ReadingEnded b M L P r P'
  refused : ReadFits b M L P → answer_of P ≡ 0 → total b ≤ came_of P → (Accepted b M L → ⊥) → r ≡ not_accepted → P' ≡ set P answer_word not_accepted
      → ReadingEnded b M L P r P'
  over : ReadFits b M L P → (answer_of P ≡ 0 → ⊥) → r ≡ told (answer_of P) → P' ≡ P → ReadingEnded b M L P r P'
  not_fitting : (ReadFits b M L P → ⊥) → r ≡ ill_fitting → P' ≡ P → ReadingEnded b M L P r P'
