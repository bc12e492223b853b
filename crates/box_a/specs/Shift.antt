-- Document 01, "A shift on box A": every row, in order, and the words that it names. Assumes nothing.
use Rattle.std.specs.Prelude.{ℕ, ◌+◌, ◌≡◌, List, [], ◌∷◌, ◌++◌, replicate, length}
use Rattle.words.specs.Words.{padded}
use Rattle.machine.specs.declared.Machine.{Machine}
use Rattle.ledger.specs.Ledger.{header, rec}
use Rattle.memory.specs.Memory.{frame}
use Rattle.answer.specs.Answer.{Out}
use Rattle.batch.specs.Batch.{batch}
use Rattle.boot.specs.Boot.{fresh_ledger, fresh_memory}

-- "F=16, monitor 0-1, secure 6-13 (n=8)."
abbrev pub box_a : Machine
box_a = record { frames = 16; secure = 6; pages = 8; monitor = 0; monitors = 2 }

-- a call and its answer, without the zeros after them
pub record Case : Type 0 where
  pub asked : List ℕ
  pub answered : List ℕ

infix 5 ◌⇒◌
abbrev pub ◌⇒◌ : List ℕ → List ℕ → Case
c ⇒ a = record { asked = c; answered = a }

-- 1. "InitAddrSpace 0,0 gives 2*; 8,8 gives 1*; 0,1 gives 0*; 1,2 gives 2."
unfoldable pub row1 : List Case
row1 =
    (2 ∷ 0 ∷ 0 ∷ [] ⇒ 2 ∷ []) ∷ (2 ∷ 8 ∷ 8 ∷ [] ⇒ 1 ∷ []) ∷ (2 ∷ 0 ∷ 1 ∷ [] ⇒ 0 ∷ []) ∷ (2 ∷ 1 ∷ 2 ∷ [] ⇒ 2 ∷ []) ∷ []

-- 2. "InitL2PTable on space 1: 3*. On 0 with page 2: index 256 21*, index 0 0*; page 3, index 0: 7*."
unfoldable pub row2 : List Case
row2 =
    (4 ∷ 1 ∷ 2 ∷ 0 ∷ [] ⇒ 3 ∷ []) ∷ (4 ∷ 0 ∷ 2 ∷ 256 ∷ [] ⇒ 21 ∷ []) ∷ (4 ∷ 0 ∷ 2 ∷ 0 ∷ [] ⇒ 0 ∷ []) ∷
    (4 ∷ 0 ∷ 3 ∷ 0 ∷ [] ⇒ 7 ∷ []) ∷ []

-- 3. "MapSecure 0,3, 4194307 (index 1), frame 2: 8*. With 4099: frame 6, 1 or 16 9*; frame 5 0, and word 1 of page 2 is 36867*."
unfoldable pub row3 : List Case
row3 =
    (6 ∷ 0 ∷ 3 ∷ 4194307 ∷ 2 ∷ [] ⇒ 8 ∷ []) ∷ (6 ∷ 0 ∷ 3 ∷ 4099 ∷ 6 ∷ [] ⇒ 9 ∷ []) ∷ (6 ∷ 0 ∷ 3 ∷ 4099 ∷ 1 ∷ [] ⇒ 9 ∷ []) ∷
    (6 ∷ 0 ∷ 3 ∷ 4099 ∷ 16 ∷ [] ⇒ 9 ∷ []) ∷ (6 ∷ 0 ∷ 3 ∷ 4099 ∷ 5 ∷ [] ⇒ 0 ∷ []) ∷ []

-- 4. "InitThread 0,4,4096: 0. Blocks 66, owned 4, free word 224; FreePages 3 and 5*. Enter 4: 5*."
unfoldable pub row4 : List Case
row4 =
    (3 ∷ 0 ∷ 4 ∷ 4096 ∷ [] ⇒ 0 ∷ []) ∷ (13 ∷ [] ⇒ 0 ∷ 3 ∷ 5 ∷ []) ∷ (9 ∷ 4 ∷ [] ⇒ 5 ∷ []) ∷ []

-- 5. "Finalise 0: 0, again 4. Enter 4,7,8,9: the whole record is 0,7,8,9, twelve zeros, 4096, fifteen zeros*."
unfoldable pub row5 : List Case
row5 =
    (8 ∷ 0 ∷ [] ⇒ 0 ∷ []) ∷ (8 ∷ 0 ∷ [] ⇒ 4 ∷ []) ∷
    (9 ∷ 4 ∷ 7 ∷ 8 ∷ 9 ∷ [] ⇒ 0 ∷ 7 ∷ 8 ∷ 9 ∷ replicate 12 0 ++ (4096 ∷ replicate 15 0)) ∷ []

-- 6. "InitThread: 15*. Store 4096: 0. Load 4098: 33, then Load 4096: 15."
unfoldable pub row6 : List Case
row6 =
    (3 ∷ 0 ∷ 5 ∷ 4096 ∷ [] ⇒ 15 ∷ []) ∷ (42 ∷ 4096 ∷ 77 ∷ [] ⇒ 0 ∷ []) ∷ (41 ∷ 4098 ∷ [] ⇒ 33 ∷ []) ∷ (41 ∷ 4096 ∷ [] ⇒ 15 ∷ []) ∷ []

-- 7. "Enter, Interrupt 32, Enter 11, Resume 0, Exit with v = 5: 0 and 5. Remove 3: 13*."
unfoldable pub row7 : List Case
row7 =
    (9 ∷ 4 ∷ [] ⇒ 0 ∷ replicate 15 0 ++ (4096 ∷ [])) ∷ (39 ∷ 1 ∷ 2 ∷ 3 ∷ [] ⇒ 32 ∷ []) ∷ (9 ∷ 4 ∷ [] ⇒ 11 ∷ []) ∷
    (10 ∷ 4 ∷ [] ⇒ 0 ∷ 1 ∷ 2 ∷ 3 ∷ []) ∷ (38 ∷ 5 ∷ [] ⇒ 0 ∷ 5 ∷ []) ∷ (12 ∷ 3 ∷ [] ⇒ 13 ∷ []) ∷ []

-- 8. "Stop 0; Remove 0 14; 1, 2, 3, 4, 0 all 0; Remove 0 22*."
unfoldable pub row8 : List Case
row8 =
    (11 ∷ 0 ∷ [] ⇒ 0 ∷ []) ∷ (12 ∷ 0 ∷ [] ⇒ 14 ∷ []) ∷ (12 ∷ 1 ∷ [] ⇒ 0 ∷ []) ∷ (12 ∷ 2 ∷ [] ⇒ 0 ∷ []) ∷ (12 ∷ 3 ∷ [] ⇒ 0 ∷ []) ∷
    (12 ∷ 4 ∷ [] ⇒ 0 ∷ []) ∷ (12 ∷ 0 ∷ [] ⇒ 0 ∷ []) ∷ (12 ∷ 0 ∷ [] ⇒ 22 ∷ []) ∷ []

unfoldable pub shift : List Case
shift = row1 ++ (row2 ++ (row3 ++ (row4 ++ (row5 ++ (row6 ++ (row7 ++ row8))))))

-- the records of the calls, and those of the answers, 32 words each
unfoldable pub asked : List Case → List ℕ
asked [] = []
asked (c ∷ cs) = padded c.asked ++ asked cs

unfoldable pub answered : List Case → List ℕ
answered [] = []
answered (c ∷ cs) = padded c.answered ++ answered cs

-- the first k cases of the shift, from what Boot leaves with any key on a memory that holds v throughout
unfoldable pub played : ℕ → List ℕ → ℕ → Out
played k key v = batch box_a k (fresh_memory box_a (replicate 16384 v)) (fresh_ledger box_a key) (asked shift)

pub record Shift (key : List ℕ) (v : ℕ) : Type 0 where
  pub answers : (played (length shift) key v).ans ≡ answered shift
  pub slot : frame (played 13 key v).mem (6 + 2) 1 ≡ 36867
  pub blocks : rec (played 14 key v).led 0 5 ≡ 66
  pub owned : rec (played 14 key v).led 0 4 ≡ 4
  pub free_word : header (played 14 key v).led 9 ≡ 224
