-- Request #106, "Saved images": what is settled of each service, how a block is laid down, and what its check sees. Assumes nothing.
use Rattle.std.specs.Prelude.{ℕ, ◌+◌, ◌*◌, ◌/◌, ◌%◌, ◌^◌, ◌≤◌, ◌<◌, ◌≡◌, ◌⊎◌, List, [], ◌∷◌, length, get_or, set, take, replicate}
use Rattle.words.specs.Bytes.{AreWords, AreBytes, word_at}
use Rattle.crc32.specs.Crc32.{crc32, bit_at}
use Rattle.crc32.specs.Division.{Congruent, IsTheStandards}
use Rattle.machine.specs.declared.Machine.{Machine}
use Rattle.machine.specs.Machine.{Fits, frame_words}
use Rattle.memory.specs.Memory.{frame}
use Rattle.boot.specs.Boot.{fresh_ledger}
use Rattle.box_a.specs.Shift.{box_a}
use Rattle.image.specs.Image.{total, image_of, block_of}
use Rattle.image.specs.Service.{BlocksCounted, BlockWritten, BlockRead, ReadingEnded}
use Rattle.promises.specs.Terms.{OfSecure}
use Rattle.promises.specs.Settled.{Given}

-- ---- nothing is left open: two outcomes of a service are one
pub record ImagesAreSettled : Type 0 where
  pub blocks : (b : Machine) (r r' : ℕ) → BlocksCounted b r → BlocksCounted b r' → r ≡ r'
  pub write : (b : Machine) (M L : List ℕ) (number j : ℕ) (B : List ℕ) (r r' : ℕ) (B₁ B₂ : List ℕ)
      → BlockWritten b M L number j B r B₁ → BlockWritten b M L number j B r' B₂ → (r ≡ r') × (B₁ ≡ B₂)
  pub read : (b : Machine) (M L P B : List ℕ) (r r' : ℕ) (M₁ L₁ P₁ M₂ L₂ P₂ : List ℕ)
      → BlockRead b M L P B r M₁ L₁ P₁ → BlockRead b M L P B r' M₂ L₂ P₂ → (r ≡ r') × (M₁ ≡ M₂) × (L₁ ≡ L₂) × (P₁ ≡ P₂)
  pub end : (b : Machine) (M L P : List ℕ) (r r' : ℕ) (P₁ P₂ : List ℕ)
      → ReadingEnded b M L P r P₁ → ReadingEnded b M L P r' P₂ → (r ≡ r') × (P₁ ≡ P₂)

-- ---- "18 as for Boot", by the documents' own numbers; a writer's block has 512 bytes and its index is below the total, progress has 4 words. The
-- total, of numbers that fit, is the least number of payloads that hold the image
pub record ImagesEighteenExactlyWhen : Type 0 where
  pub no_box : (b : Machine) (r : ℕ) → BlocksCounted b r → (Fits b → ⊥) → r ≡ 0
  pub box : (b : Machine) (r : ℕ) → BlocksCounted b r → Fits b
      → (64 + 32 * b.pages + 1024 * b.pages ≤ 124 * r) × (124 * r < 64 + 32 * b.pages + 1024 * b.pages + 124)
  pub counted : (b : Machine) (r : ℕ) → BlocksCounted b r → Fits b → r ≡ total b
  pub write_done : (b : Machine) (M L : List ℕ) (number j : ℕ) (B : List ℕ) (r T : ℕ) (B' : List ℕ)
      → BlockWritten b M L number j B r B' → BlocksCounted b T → Given b M L → j < T → length B ≡ 512 → r ≡ 0
  pub write_18 : (b : Machine) (M L : List ℕ) (number j : ℕ) (B : List ℕ) (r T : ℕ) (B' : List ℕ)
      → BlockWritten b M L number j B r B' → BlocksCounted b T → (Given b M L × (j < T) × (length B ≡ 512) → ⊥) → r ≡ 18
  pub read_18 : (b : Machine) (M L P B : List ℕ) (r : ℕ) (M' L' P' : List ℕ)
      → BlockRead b M L P B r M' L' P' → (Given b M L × (length P ≡ 4) → ⊥) → r ≡ 18
  pub read_other : (b : Machine) (M L P B : List ℕ) (r : ℕ) (M' L' P' : List ℕ)
      → BlockRead b M L P B r M' L' P' → Given b M L → length P ≡ 4 → (r ≡ 0) ⊎ ((r ≡ 25) ⊎ (r ≡ 26))
  pub end_18 : (b : Machine) (M L P : List ℕ) (r : ℕ) (P' : List ℕ)
      → ReadingEnded b M L P r P' → (Given b M L × (length P ≡ 4) → ⊥) → r ≡ 18
  pub end_other : (b : Machine) (M L P : List ℕ) (r : ℕ) (P' : List ℕ)
      → ReadingEnded b M L P r P' → Given b M L → length P ≡ 4 → (r ≡ 0) ⊎ ((r ≡ 25) ⊎ (r ≡ 26))

-- 18 leaves every word that was lent; a block that is not taken leaves the spare, and progress too where an answer of before is said again
pub record ImagesRefuseAlone : Type 0 where
  pub write_18 : (b : Machine) (M L : List ℕ) (number j : ℕ) (B B' : List ℕ) → BlockWritten b M L number j B 18 B' → B' ≡ B
  pub read_18 : (b : Machine) (M L P B M' L' P' : List ℕ) → BlockRead b M L P B 18 M' L' P' → (M' ≡ M) × (L' ≡ L) × (P' ≡ P)
  pub end_18 : (b : Machine) (M L P P' : List ℕ) → ReadingEnded b M L P 18 P' → P' ≡ P
  pub spare : (b : Machine) (M L P B : List ℕ) (r : ℕ) (M' L' P' : List ℕ) → BlockRead b M L P B r M' L' P' → (r ≡ 0 → ⊥) → (M' ≡ M) × (L' ≡ L)
  pub said_again : (b : Machine) (M L P B : List ℕ) (r : ℕ) (M' L' P' : List ℕ)
      → BlockRead b M L P B r M' L' P' → (get_or P 0 0 ≡ 0 → ⊥) → (M' ≡ M) × (L' ≡ L) × (P' ≡ P)
  -- a block writes the ledger and the secure frames alone
  pub others : (b : Machine) (M L P B : List ℕ) (r : ℕ) (M' L' P' : List ℕ) → BlockRead b M L P B r M' L' P'
      → (f k : ℕ) → (OfSecure b f → ⊥) → k < frame_words → frame M' f k ≡ frame M f k

-- ---- the progress words, where what is lent fits: an answer that stands in word 0 is said again, 26 as 26 and any other number as 25, and nothing
-- moves; a good block counts, and leaves its number; an answer of 25 or 26 is kept, and a yes leaves progress as it is
abbrev pub Again : ℕ → ℕ → Type 0
Again a r = ((a ≡ 26) × (r ≡ 26)) ⊎ ((a ≡ 26 → ⊥) × (r ≡ 25))

pub record ProgressTells : Type 0 where
  pub read_again : (b : Machine) (M L P B : List ℕ) (r : ℕ) (M' L' P' : List ℕ) → BlockRead b M L P B r M' L' P'
      → Given b M L → length P ≡ 4 → (get_or P 0 0 ≡ 0 → ⊥) → Again (get_or P 0 0) r
  pub end_again : (b : Machine) (M L P : List ℕ) (r : ℕ) (P' : List ℕ) → ReadingEnded b M L P r P'
      → Given b M L → length P ≡ 4 → (get_or P 0 0 ≡ 0 → ⊥) → Again (get_or P 0 0) r × (P' ≡ P)
  pub read_leaves : (b : Machine) (M L P B : List ℕ) (r : ℕ) (M' L' P' : List ℕ) → BlockRead b M L P B r M' L' P'
      → Given b M L → length P ≡ 4 → get_or P 0 0 ≡ 0
      → ((r ≡ 0) × (P' ≡ set (set P 1 (get_or P 1 0 + 1)) 2 (word_at B 0))) ⊎ ((r ≡ 25) × (P' ≡ set P 0 25))
  pub end_leaves : (b : Machine) (M L P : List ℕ) (r : ℕ) (P' : List ℕ) → ReadingEnded b M L P r P'
      → Given b M L → length P ≡ 4 → get_or P 0 0 ≡ 0
      → ((r ≡ 0) × (P' ≡ P)) ⊎ ((r ≡ 0 → ⊥) × (P' ≡ set P 0 r))

-- ---- "word 0 image number, 1 block index from 0, 2 block total, 3-126 payload (zero-filled at the end), 127 the CRC-32 .. over the first 508
-- bytes", "ledger then secure frames": by the documents' own numbers
pub record LaidDown (b : Machine) (M L : List ℕ) (number j : ℕ) (B : List ℕ) : Type 0 where
  pub size : length B ≡ 512
  pub bytes : AreBytes B
  pub numbered : word_at B 0 ≡ number
  pub index : word_at B 1 ≡ j
  -- #109: "the block total + 65,536"; as many payloads as hold the image, and no fewer do
  pub blocks : ℕ
  pub total : word_at B 2 ≡ blocks + 65536
  pub enough : 64 + 32 * b.pages + 1024 * b.pages ≤ 124 * blocks
  pub no_more : 124 * blocks < 64 + 32 * b.pages + 1024 * b.pages + 124
  pub ledger : (i : ℕ) → i < 124 → 124 * j + i < 64 + 32 * b.pages → word_at B (3 + i) ≡ get_or L (124 * j + i) 0
  pub frames : (i p k : ℕ) → i < 124 → p < b.pages → k < 1024 → 124 * j + i ≡ 64 + 32 * b.pages + (1024 * p + k)
      → word_at B (3 + i) ≡ frame M (b.secure + p) k
  pub fill : (i : ℕ) → i < 124 → 64 + 32 * b.pages + 1024 * b.pages ≤ 124 * j + i → word_at B (3 + i) ≡ 0
  pub check : word_at B 127 ≡ crc32 (take 508 B)

abbrev pub BlocksAreLaidDown : Type 0
BlocksAreLaidDown =
    (b : Machine) (M L : List ℕ) (number j : ℕ) (B B' : List ℕ) → BlockWritten b M L number j B 0 B'
    → number < 2 ^ 32 → AreWords (image_of b M L) → LaidDown b M L number j B'

-- ---- "127 the CRC-32 of IEEE 802.3": of "123456789"; of any bytes what the standard says, and nothing else is; and any change of one bit, or
-- of bits that lie within 32 in a row, is seen, the check's own bits included: two blocks with right checks that agree outside 32 bits in a row
-- are one
abbrev pub Checked : List ℕ → Type 0
Checked B = crc32 (take 508 B) ≡ word_at B 127

pub record ChecksAreSeen : Type 0 where
  pub published : crc32 (49 ∷ 50 ∷ 51 ∷ 52 ∷ 53 ∷ 54 ∷ 55 ∷ 56 ∷ 57 ∷ []) ≡ 0xCBF43926
  pub standard : (bs : List ℕ) → AreBytes bs → 4 ≤ length bs → IsTheStandards bs
  pub only_one : (A r s : ℕ) → r < 2 ^ 32 → s < 2 ^ 32 → Congruent A r → Congruent A s → r ≡ s
  pub bursts : (A B : List ℕ) (k : ℕ) → AreBytes A → AreBytes B → length A ≡ 512 → length B ≡ 512 → Checked A → Checked B
      → ((i : ℕ) → (i < k) ⊎ (k + 32 ≤ i) → bit_at B i ≡ bit_at A i) → A ≡ B

-- ---- block 0 of image 7 of box A, fresh with the key 1 to 8
abbrev pub FirstBlockOfBoxA : Type 0
FirstBlockOfBoxA =
    let L : List ℕ = fresh_ledger box_a (1 ∷ 2 ∷ 3 ∷ 4 ∷ 5 ∷ 6 ∷ 7 ∷ 8 ∷ []) in
    let B : List ℕ = block_of box_a (replicate 16384 0) L 7 0 in
    (word_at B 0 ≡ 7) × (word_at B 2 ≡ 69 + 65536) × (word_at B 12 ≡ 255) × (word_at B 127 ≡ 0xbbde2a8e)
