-- What belongs to no one part: a choice, what a test's answer says, refusals in order, bits, sums, lists of words. Assumes nothing.
use Rattle.std.specs.Prelude.{ℕ, zero, suc, ◌+◌, ◌-◌, ◌*◌, ◌/◌, ◌%◌, ◌^◌, Bool, true, false, ◌&&◌, List, [], ◌∷◌, ◌++◌, eqb, take, drop, replicate}

-- ---- choices
abbrev pub pick : {A : Type 0} → Bool → A → A → A
pick true x y = x
pick false x y = y

-- what a test's answer says of a demand: yes, it holds; no, it does not
abbrev pub Says : Bool → Type 0 → Type 0
Says true C = C
Says false C = C → ⊥

-- ---- refusals: "checks left to right"
-- a refusal: its number where the test holds, else 0
abbrev pub when : Bool → ℕ → ℕ
when true c = c
when false c = 0

-- the first refusal of two, and of a list
unfoldable pub or : ℕ → ℕ → ℕ
or zero d = d
or (suc c) d = suc c

abbrev pub first : List ℕ → ℕ
first [] = 0
first (c ∷ []) = c
first (c ∷ d ∷ cs) = or c (first (d ∷ cs))

-- ---- bits
-- the bits of a word
abbrev pub word_bits : ℕ
word_bits = 32

-- the c bits of w from bit lo on
abbrev pub bits : ℕ → ℕ → ℕ → ℕ
bits lo c w = w / 2 ^ lo % 2 ^ c

-- bit j of a word; the word with that bit 0, and with it 1
unfoldable pub bit : ℕ → ℕ → ℕ
bit w j = w / 2 ^ j % 2

unfoldable pub bit_off : ℕ → ℕ → ℕ
bit_off w j = w - bit w j * 2 ^ j

unfoldable pub bit_on : ℕ → ℕ → ℕ
bit_on w j = w + (1 - bit w j) * 2 ^ j

-- ---- below a number
-- f 0 + .. + f (n - 1)
unfoldable pub sum_below : ℕ → (ℕ → ℕ) → ℕ
sum_below zero f = 0
sum_below (suc n) f = sum_below n f + f n

-- the least number below n at which f is not 0, or n
unfoldable pub least_below : ℕ → (ℕ → ℕ) → ℕ
least_below zero f = 0
least_below (suc n) f = elim (f 0) [ zero ↦ suc (least_below n (λ i. f (suc i))) | suc v ↦ 0 ]

-- f 0, .., f (n - 1)
unfoldable pub list_below : ℕ → (ℕ → ℕ) → List ℕ
list_below zero f = []
list_below (suc n) f = list_below n f ++ (f n ∷ [])

-- ---- lists of words
-- the words of a record: a page's, a call's, an answer's
abbrev pub record_words : ℕ
record_words = 32

-- as many words: those of vs, then zeros
unfoldable pub padded : List ℕ → List ℕ
padded vs = take record_words (vs ++ replicate record_words 0)

-- the n words from word i on replaced by the n words of vs, where they lie inside; the rest as they were
unfoldable pub paste : List ℕ → ℕ → ℕ → List ℕ → List ℕ
paste M i n vs = take i M ++ (vs ++ drop (i + n) M)

-- all of them are zero
unfoldable pub all_zero : List ℕ → Bool
all_zero [] = true
all_zero (x ∷ xs) = eqb x 0 && all_zero xs
