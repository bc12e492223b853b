-- A map: one bit for each of the places 0, 1, .., in words of 32. Request #109: "State the map's facts once for any number of words."
-- Assumes nothing.
use Rattle.std.specs.Prelude.{ℕ, ◌+◌, ◌-◌, ◌*◌, ◌/◌, ◌%◌, ◌^◌, ◌≤◌, ◌<◌, ◌≡◌, ltb}
use Rattle.std.specs.Int.Count.{ones, count_trailing_zeros}
use Rattle.words.specs.Words.{pick, word_bits, bit, bit_off, bit_on, sum_below, least_below}

-- place p's bit of the map whose words are ws 0, ws 1, ..: "bit p mod 32 of word .. p div 32"
abbrev pub bit_of : (ℕ → ℕ) → ℕ → ℕ
bit_of ws p = bit (ws (p / word_bits)) (p % word_bits)

-- word j of the map that says f: at place p the bit f p, 0 or 1
unfoldable pub word_of : (ℕ → ℕ) → ℕ → ℕ
word_of f j = sum_below word_bits (λ i. f (word_bits * j + i) * 2 ^ i)

-- 1 at the first n places: what a fresh map says
abbrev pub first_places : ℕ → ℕ → ℕ
first_places n p = pick (ltb p n) 1 0

-- the k words of ws are words
abbrev pub Fit : ℕ → (ℕ → ℕ) → Type 0
Fit k ws = (j : ℕ) → j < k → ws j < 2 ^ word_bits

-- ws' is ws with v for its word at j; and ws', words still, says what ws says, but v at place p
pub record With (k : ℕ) (ws : ℕ → ℕ) (j v : ℕ) (ws' : ℕ → ℕ) : Type 0 where
  pub here : ws' j ≡ v
  pub others : (i : ℕ) → i < k → (i ≡ j → ⊥) → ws' i ≡ ws i

pub record WithBit (k : ℕ) (ws : ℕ → ℕ) (p v : ℕ) (ws' : ℕ → ℕ) : Type 0 where
  pub fit : Fit k ws'
  pub here : bit_of ws' p ≡ v
  pub others : (q : ℕ) → q < word_bits * k → (q ≡ p → ⊥) → bit_of ws' q ≡ bit_of ws q

-- ---- the facts, of a map of k words
pub record MapFacts (k : ℕ) : Type 0 where
  -- counting ones: those of its words, added up
  pub counted : (ws : ℕ → ℕ) → Fit k ws → sum_below k (λ j. ones (ws j)) ≡ sum_below (word_bits * k) (bit_of ws)
  -- the lowest one stands in the first word that is not 0, after its trailing zeros; where every word is 0 there is none
  pub lowest : (ws : ℕ → ℕ) (j : ℕ) → j < k → ws j < 2 ^ word_bits → ((i : ℕ) → i < j → ws i ≡ 0) → (ws j ≡ 0 → ⊥)
      → least_below (word_bits * k) (bit_of ws) ≡ word_bits * j + count_trailing_zeros word_bits (ws j)
  pub no_lowest : (ws : ℕ → ℕ) → ((j : ℕ) → j < k → ws j ≡ 0) → least_below (word_bits * k) (bit_of ws) ≡ word_bits * k
  -- a bit cleared, and set: it alone
  pub cleared : (ws ws' : ℕ → ℕ) (p : ℕ) → Fit k ws → p < word_bits * k
      → With k ws (p / word_bits) (bit_off (ws (p / word_bits)) (p % word_bits)) ws' → WithBit k ws p 0 ws'
  pub set : (ws ws' : ℕ → ℕ) (p : ℕ) → Fit k ws → p < word_bits * k
      → With k ws (p / word_bits) (bit_on (ws (p / word_bits)) (p % word_bits)) ws' → WithBit k ws p 1 ws'
  -- exactly what f says: the words say it, word by word, exactly when the bits do, place by place
  pub exact_bits : (ws f : ℕ → ℕ) → ((p : ℕ) → f p ≤ 1) → ((j : ℕ) → j < k → ws j ≡ word_of f j)
      → Fit k ws × ((p : ℕ) → p < word_bits * k → bit_of ws p ≡ f p)
  pub exact_words : (ws f : ℕ → ℕ) → Fit k ws → ((p : ℕ) → p < word_bits * k → bit_of ws p ≡ f p) → (j : ℕ) → j < k → ws j ≡ word_of f j
  -- a fresh map of n places: words of ones, then what is left over of one word, then zeros; n ones
  pub fresh_full : (n j : ℕ) → word_bits * j + word_bits ≤ n → word_of (first_places n) j ≡ 2 ^ word_bits - 1
  pub fresh_part : (n j c : ℕ) → word_bits * j + c ≡ n → c < word_bits → word_of (first_places n) j ≡ 2 ^ c - 1
  pub fresh_empty : (n j : ℕ) → n ≤ word_bits * j → word_of (first_places n) j ≡ 0
  pub fresh_count : (n : ℕ) → n ≤ word_bits * k → sum_below (word_bits * k) (bit_of (word_of (first_places n))) ≡ n
