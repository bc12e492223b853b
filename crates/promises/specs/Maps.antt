-- Request #109: "State the map's facts once for any number of words." The facts of a map of k words, for every k (`MapFacts`, in `words`); and
-- what the ledger's own map, of 32 words, says in an accepted state. Assumes nothing.
use Rattle.std.specs.Prelude.{ℕ, ◌+◌, ◌/◌, ◌%◌, ◌<◌, ◌≡◌, List}
use Rattle.std.specs.Int.Count.{ones}
use Rattle.words.specs.Words.{bit, sum_below}
use Rattle.words.specs.Maps.{MapFacts}
use Rattle.machine.specs.declared.Machine.{Machine}
use Rattle.ledger.specs.Names.{free}
use Rattle.ledger.specs.Ledger.{header, map_bit, type_of}
use Rattle.accept.specs.Accept.{Accepted}
use Rattle.promises.specs.Jobs.{free_ones}

abbrev pub MapsOfAnySize : Type 0
MapsOfAnySize = (k : ℕ) → MapFacts k

pub record MapOfTheLedger : Type 0 where
  -- "bit p mod 32 of word 9 + p div 32"
  pub stands : (L : List ℕ) (p : ℕ) → map_bit L p ≡ bit (header L (9 + p / 32)) (p % 32)
  -- of 1,024 bits, that at p is 1 exactly when p is below n and page p is free
  pub one : (b : Machine) (M L : List ℕ) (p : ℕ) → Accepted b M L → p < b.pages → type_of L p ≡ free → map_bit L p ≡ 1
  pub zero : (b : Machine) (M L : List ℕ) (p : ℕ) → Accepted b M L → p < 1024 → (p < b.pages → type_of L p ≡ free → ⊥) → map_bit L p ≡ 0
  -- the ones of its 32 words are as many as there are free pages
  pub counted : (b : Machine) (M L : List ℕ) → Accepted b M L
      → sum_below 32 (λ j. ones (header L (9 + j))) ≡ sum_below b.pages (free_ones L)
