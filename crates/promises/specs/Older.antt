-- Request #109, "Bigger boxes": images and ledgers of before are refused. Assumes nothing.
use Rattle.std.specs.Prelude.{ℕ, ◌+◌, ◌*◌, ◌/◌, ◌%◌, ◌≤◌, ◌<◌, ◌≡◌, List, [], ◌∷◌, length, get_or, set, replicate}
use Rattle.words.specs.Words.{bit}
use Rattle.words.specs.Bytes.{word_at}
use Rattle.machine.specs.declared.Machine.{Machine}
use Rattle.accept.specs.Accept.{free_flag, Accepted}
use Rattle.image.specs.Service.{BlocksCounted, BlockRead}
use Rattle.promises.specs.Settled.{Given}

-- ---- "an image's word 2 becomes the block total + 65,536, so that old images are refused"
-- before, word 2 was the total T itself: of a box of n pages, n at most 256, whose ledger had 32+32n words
abbrev pub OldTotal : ℕ → ℕ → Type 0
OldTotal n T = (n ≤ 256) × (32 + 32 * n + 1024 * n ≤ 124 * T) × (124 * T < 32 + 32 * n + 1024 * n + 124)

pub record OldImagesAreRefused : Type 0 where
  -- while no answer stands in progress, a block whose word 2 is below 65,536 is bad, and the spare and the place that progress names stay
  pub refused : (b : Machine) (M L P B : List ℕ) (r : ℕ) (M' L' P' : List ℕ) → BlockRead b M L P B r M' L' P'
      → Given b M L → length P ≡ 4 → get_or P 0 0 ≡ 0 → word_at B 2 < 65536 → (r ≡ 25) × (M' ≡ M) × (L' ≡ L) × (P' ≡ set P 0 25)
  -- every older block is such, and an old image is refused at its block 0
  pub old_totals : (n T : ℕ) → OldTotal n T → T ≤ 2181
  pub at_block_0 : (b : Machine) (M L B : List ℕ) (r : ℕ) (M' L' P' : List ℕ) (n : ℕ) → BlockRead b M L (replicate 4 0) B r M' L' P'
      → Given b M L → OldTotal n (word_at B 2) → (r ≡ 25) × (M' ≡ M) × (L' ≡ L) × (P' ≡ 25 ∷ 0 ∷ 0 ∷ 0 ∷ [])
  -- and no total, of now either, comes near 65,536
  pub totals : (b : Machine) (r : ℕ) → BlocksCounted b r → r ≤ 8722

-- ---- "The header grows to 64 words .. ledger 64+32n words": a ledger of before for n+1 pages is as long as one of now for n
-- of a ledger of before, for N pages: its free map, in words 9-16, is exact, and the record of page q starts at word 32+32q
pub record OldMap (N : ℕ) (L : List ℕ) : Type 0 where
  pub few : N ≤ 256
  pub free_map : (p : ℕ) → p < 256 → bit (get_or L (9 + p / 32) 0) (p % 32) ≡ free_flag N (λ q k. get_or L (32 + 32 * q + k) 0) p

abbrev pub OldLedgersAreRefused : Type 0
OldLedgersAreRefused = (b : Machine) (M L : List ℕ) → OldMap (b.pages + 1) L → Accepted b M L → ⊥
