-- A ledger's free map: the map whose words are the header's from map_start on, as the code goes through it. Assumes nothing.
use Rattle.std.proofs.Common.{◌≡◌, ℕ, ◌+◌, ◌*◌, ◌^◌, ◌<◌, ◌≤◌, List, sym, ◌∙◌, ap, ap₂}
use lib.Count.{ones, count_trailing_zeros}
use Rattle.words.specs.Words.{sum_below, least_below}
use Rattle.words.proofs.Bits.{bit_le}
use Rattle.words.proofs.Sums.{sum_le}
use Rattle.words.proofs.Maps.{ones_on, map_facts}
use Rattle.machine.specs.Machine.{map_start, map_words}
use Rattle.ledger.specs.Ledger.{header, map_bit}

-- its bits are map_bit L: bit_of (map_at L) p unfolds to what map_bit L p does
abbrev pub map_at : List ℕ → ℕ → ℕ
map_at L j = header L (map_start + j)

pub count_le : (L : List ℕ) (j : ℕ) → sum_below (32 * j) (map_bit L) ≤ 32 * j
unfolding map_bit
count_le L j = sum_le (32 * j) (map_bit L) (λ p. bit_le _ _)

-- w is its word j
module _ (L : List ℕ) (j : ℕ) {w : ℕ} (is : w ≡ map_at L j) (fits : w < 2 ^ 32) where
  pub count_on : {s : ℕ} → s ≡ sum_below (32 * j) (map_bit L) → s + ones w ≡ sum_below (32 * (j + 1)) (map_bit L)
  unfolding map_bit
  count_on e = ap₂ (λ (x y : ℕ). x + ones y) e is ∙ sym (ones_on (map_at L) j (rw is at fits))

  -- the words before it are 0
  pub found_here : ((i : ℕ) → i < j → map_at L i ≡ 0) → j < map_words → (w ≡ 0 → ⊥)
      → 32 * j + count_trailing_zeros 32 w ≡ least_below (32 * map_words) (map_bit L)
  unfolding map_bit
  found_here none l some =
      ap (λ (y : ℕ). 32 * j + count_trailing_zeros 32 y) is
      ∙ sym ((map_facts map_words).lowest (map_at L) j l (rw is at fits) none (rw is at some))

-- all of them are 0
pub not_found : (L : List ℕ) {j : ℕ} → ((i : ℕ) → i < j → map_at L i ≡ 0) → j ≡ map_words → 32 * map_words ≡ least_below (32 * map_words) (map_bit L)
unfolding map_bit
not_found L none e = sym ((map_facts map_words).no_lowest (map_at L) (rw e at none))
