-- Request #106: an image read back. The reader's yes, the first bad block, the round trip, and what holds from a restored state on. Assumes
-- nothing.
use Rattle.std.specs.Prelude.{ℕ, ◌+◌, ◌*◌, ◌/◌, ◌%◌, ◌^◌, ◌≤◌, ◌<◌, ◌≡◌, ◌⊎◌, List, [], ◌∷◌, ◌++◌, length, get_or, replicate}
use Rattle.words.specs.Bytes.{AreWords, AreBytes, word_at}
use Rattle.machine.specs.declared.Machine.{Machine}
use Rattle.machine.specs.Machine.{frame_words, Insecure, Lent}
use Rattle.mapping.specs.Mapping.{page_bytes}
use Rattle.memory.specs.Memory.{frame}
use Rattle.answer.specs.Refusals.{bad_block, not_accepted}
use Rattle.accept.specs.Accept.{Accepted}
use Rattle.image.specs.Image.{image_words, number_at, payload_at, payload_words, total, image_of, block_of}
use Rattle.image.specs.Reader.{progress_words, came_of}
use Rattle.image.specs.Service.{BlockWritten, BlockRead, ReadingEnded}
use Rattle.promises.specs.Terms.{OfSecure}
use Rattle.promises.specs.Kept.{Outside, History}
use Rattle.promises.specs.Access.{Reaches}

-- ---- a reading: blocks lent one after the other to a spare memory M₀ and ledger L₀, from zero progress. The spare, insecure frames aside, and
-- progress are lent each time as the call before left them
pub data Reading (b : Machine) (M₀ L₀ : List ℕ) : List (List ℕ) → List ℕ → List ℕ → List ℕ → Type 0 where
  begin : Reading b M₀ L₀ [] M₀ L₀ (replicate progress_words 0)
  next : (Bs : List (List ℕ)) (M M₁ L P B : List ℕ) (r : ℕ) (M' L' P' : List ℕ)
      → Reading b M₀ L₀ Bs M L P → Outside b M M₁ → BlockRead b M₁ L P B r M' L' P' → Reading b M₀ L₀ (Bs ++ (B ∷ [])) M' L' P'

-- and ended: the answer is r, memory M and ledger L being lent then, and progress is left as P
pub record Ended (b : Machine) (M₀ L₀ : List ℕ) (Bs : List (List ℕ)) (r : ℕ) (M L P : List ℕ) : Type 0 where
  pub left : List ℕ
  pub progress : List ℕ
  pub reading : Reading b M₀ L₀ Bs left L progress
  pub aside : Outside b left M
  pub answered : ReadingEnded b M L progress r P

-- block j of what was lent
abbrev pub block_at : List (List ℕ) → ℕ → List ℕ
block_at Bs j = get_or Bs j []

-- each was lent as bytes
abbrev pub AllBytes : List (List ℕ) → Type 0
AllBytes Bs = (j : ℕ) → AreBytes (block_at Bs j)

-- ---- "says yes exactly when every block, and none more, has come whole and in order .. and acceptance passes": they are the blocks of an
-- image of one number, and acceptance passes on what they hold
pub record WholeImage (b : Machine) (Bs : List (List ℕ)) : Type 0 where
  pub number : ℕ
  pub memory : List ℕ
  pub ledger : List ℕ
  pub lent : Lent b memory ledger
  pub words : AreWords (image_of b memory ledger)
  pub number_word : number < 2 ^ 32
  pub count : length Bs ≡ total b
  pub each : (j : ℕ) → j < total b → block_at Bs j ≡ block_of b memory ledger number j
  pub accepted : Accepted b memory ledger

-- "the spare holds the payload before that, the rest as lent": that of the first j blocks; of the frames that are not secure nobody but
-- outsiders writes any
pub record SpareHolds (b : Machine) (M₀ L₀ : List ℕ) (Bs : List (List ℕ)) (j : ℕ) (M L : List ℕ) : Type 0 where
  pub lent : Lent b M L
  pub before : (p : ℕ) → p < payload_words * j → p < image_words b
      → get_or (image_of b M L) p 0 ≡ word_at (block_at Bs (p / payload_words)) (payload_at + p % payload_words)
  pub rest : (p : ℕ) → payload_words * j ≤ p → p < image_words b → get_or (image_of b M L) p 0 ≡ get_or (image_of b M₀ L₀) p 0
  pub others : (f k : ℕ) → f < b.frames → (OfSecure b f → ⊥) → (Insecure b f → ⊥) → k < frame_words → frame M f k ≡ frame M₀ f k

pub record ImageYes : Type 0 where
  pub exactly : (b : Machine) (M₀ L₀ : List ℕ) (Bs : List (List ℕ)) (r : ℕ) (M L P : List ℕ) → Lent b M₀ L₀ → AllBytes Bs → Ended b M₀ L₀ Bs r M L P
      → (r ≡ 0 → WholeImage b Bs) × (WholeImage b Bs → r ≡ 0)
  -- and then the whole image stands in the spare, and acceptance passes there
  pub holds : (b : Machine) (M₀ L₀ : List ℕ) (Bs : List (List ℕ)) (M L P : List ℕ) → Lent b M₀ L₀ → AllBytes Bs → Ended b M₀ L₀ Bs 0 M L P
      → SpareHolds b M₀ L₀ Bs (total b) M L × Accepted b M L

-- ---- "otherwise it names the first bad block, or acceptance"
-- B is block j of some image with that number
pub record IsBlock (b : Machine) (number j : ℕ) (B : List ℕ) : Type 0 where
  pub memory : List ℕ
  pub ledger : List ℕ
  pub lent : Lent b memory ledger
  pub is : B ≡ block_of b memory ledger number j

-- a bad place: a block that is missing, one too many, or not block j of any image with block 0's number
pub data Bad (b : Machine) (Bs : List (List ℕ)) (j : ℕ) : Type 0 where
  missing : length Bs ≤ j → j < total b → Bad b Bs j
  one_more : total b ≤ j → j < length Bs → Bad b Bs j
  other : j < length Bs → j < total b → (IsBlock b (word_at (block_at Bs 0) number_at) j (block_at Bs j) → ⊥) → Bad b Bs j

pub record FirstBad (b : Machine) (Bs : List (List ℕ)) (j : ℕ) : Type 0 where
  pub bad : Bad b Bs j
  pub least : (i : ℕ) → i < j → Bad b Bs i → ⊥

pub record FirstBadBlock : Type 0 where
  -- each block is answered at once: 0 while no place up to it is bad; else 25, and progress names the first
  pub at_once : (b : Machine) (M₀ L₀ : List ℕ) (Bs : List (List ℕ)) (M L P M₁ B : List ℕ) (r : ℕ) (M' L' P' : List ℕ) → Lent b M₀ L₀ → AllBytes (Bs ++ (B ∷ []))
      → Reading b M₀ L₀ Bs M L P → Outside b M M₁ → BlockRead b M₁ L P B r M' L' P'
      → ((r ≡ 0) × ((i : ℕ) → i ≤ length Bs → Bad b (Bs ++ (B ∷ [])) i → ⊥)) ⊎ ((r ≡ 25) × FirstBad b (Bs ++ (B ∷ [])) (came_of P'))
  -- 25 names the first bad place, and the spare holds the payload before it
  pub names : (b : Machine) (M₀ L₀ : List ℕ) (Bs : List (List ℕ)) (M L P : List ℕ) → Lent b M₀ L₀ → AllBytes Bs
      → Ended b M₀ L₀ Bs bad_block M L P → FirstBad b Bs (came_of P) × SpareHolds b M₀ L₀ Bs (came_of P) M L
  -- and is the answer wherever there is one
  pub always : (b : Machine) (M₀ L₀ : List ℕ) (Bs : List (List ℕ)) (r j : ℕ) (M L P : List ℕ) → Lent b M₀ L₀ → AllBytes Bs
      → Ended b M₀ L₀ Bs r M L P → Bad b Bs j → r ≡ bad_block
  -- 26 exactly when there is none and acceptance says no; the whole payload then stands in the spare
  pub acceptance : (b : Machine) (M₀ L₀ : List ℕ) (Bs : List (List ℕ)) (M L P : List ℕ) → Lent b M₀ L₀ → AllBytes Bs
      → Ended b M₀ L₀ Bs not_accepted M L P
      → ((j : ℕ) → Bad b Bs j → ⊥) × (Accepted b M L → ⊥) × SpareHolds b M₀ L₀ Bs (total b) M L
  pub is_not_accepted : (b : Machine) (M₀ L₀ : List ℕ) (Bs : List (List ℕ)) (r : ℕ) (M L P : List ℕ) → Lent b M₀ L₀ → AllBytes Bs
      → Ended b M₀ L₀ Bs r M L P → ((j : ℕ) → Bad b Bs j → ⊥) → (Accepted b M L → ⊥) → r ≡ not_accepted

-- ---- "An accepted state, written then read, gets a yes and the same words.": its blocks written one after the other under one number, while
-- outsiders change insecure frames only (mems j is the memory as block j is written, lists j what was lent for it)
pub record SameWords (b : Machine) (M L M₀ M' L' : List ℕ) : Type 0 where
  pub ledger : L' ≡ L
  pub secure : (p k : ℕ) → p < b.pages → k < frame_words → frame M' (b.secure + p) k ≡ frame M (b.secure + p) k
  pub others : (f k : ℕ) → f < b.frames → (OfSecure b f → ⊥) → (Insecure b f → ⊥) → k < frame_words → frame M' f k ≡ frame M₀ f k

abbrev pub ImageRoundTrip : Type 0
ImageRoundTrip =
    (b : Machine) (M L : List ℕ) (number : ℕ) (lists mems : ℕ → List ℕ) (Bs : List (List ℕ)) (M₀ L₀ : List ℕ) (r : ℕ) (M' L' P : List ℕ)
    → Accepted b M L → AreWords (image_of b M L) → number < 2 ^ 32
    → length Bs ≡ total b → ((j : ℕ) → j < total b → Outside b M (mems j))
    → ((j : ℕ) → j < total b → BlockWritten b (mems j) L number j (lists j) 0 (block_at Bs j))
    → Lent b M₀ L₀ → Ended b M₀ L₀ Bs r M' L' P
    → (r ≡ 0) × SameWords b M L M₀ M' L'

-- ---- "Restoring rewinds history: demand 3 then starts again from the restored state"
-- acceptance reads the ledger and the secure frames alone
abbrev pub AcceptanceReadsSecureAlone : Type 0
AcceptanceReadsSecureAlone =
    (b : Machine) (M M' L : List ℕ) → Accepted b M L → Lent b M' L
    → ((p k : ℕ) → p < b.pages → k < frame_words → frame M' (b.secure + p) k ≡ frame M (b.secure + p) k) → Accepted b M' L

-- histories joined by restores: a box is begun in an accepted state, has its history, and goes on with the ledger and the secure frames that a
-- reading's end said yes to, whatever the other frames of its memory hold
pub data Life (b : Machine) : List ℕ → List ℕ → Type 0 where
  begun : (M L : List ℕ) → Accepted b M L → Life b M L
  lived : (M L M' L' : List ℕ) → Life b M L → History b M L M' L' → Life b M' L'
  restored : (M L M' L' P P' N : List ℕ) → Life b M L → ReadingEnded b M' L' P 0 P' → Lent b N L'
      → ((p k : ℕ) → p < b.pages → k < frame_words → frame N (b.secure + p) k ≡ frame M' (b.secure + p) k) → Life b N L'

pub record Restored : Type 0 where
  -- what the end says yes to is accepted: every promise over a history holds from it
  pub accepted : (b : Machine) (M L P P' : List ℕ) → ReadingEnded b M L P 0 P' → Accepted b M L
  -- at every moment of a life acceptance passes, and at no moment is a data page reached from two page addresses, nor by two enclaves
  pub always : (b : Machine) (M L : List ℕ) → Life b M L → Accepted b M L
  pub alone : (b : Machine) (M L : List ℕ) (a v a' v' d : ℕ) → Life b M L → Reaches b M L a v d → Reaches b M L a' v' d
      → (a ≡ a') × (v / page_bytes ≡ v' / page_bytes)
