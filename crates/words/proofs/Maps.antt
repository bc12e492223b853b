-- The facts of a map, for any number of words: its ones, its lowest one, a bit cleared and set, what it says, a fresh one. Assumes nothing.
use Prim.Native.Nat.{ℕ, zero, suc, ◌+◌, ◌*◌, ◌/◌, ◌%◌, ◌^◌, ◌≤◌, ◌<◌}
use mathlib.Core.Path.{◌≡◌, refl, sym, ap, ap₂, ◌∙◌}
use mathlib.Core.Logic.{⊎_elim}
use native.Mathlib.Nat.{pow-suc, zero-mul}
use native.Mathlib.Numerals.{add-one}
use native.Mathlib.Omega.{arith}
use lib.Count.{ones, ones_step, count_trailing_zeros, under}
use lib.Dec.{ltb}
use borrow.Author.Tests.{lt-ltb, le-ltb}
use Rattle.words.specs.Words.{bit, sum_below, least_below}
use Rattle.words.specs.Maps.{bit_of, word_of, first_places, Fit, With, WithBit, MapFacts}
use Rattle.words.proofs.Bits.{bit_zero, bit_suc, bit_of_zero, bit_sum, sum_fits, sum_of_bits, low_ones, bit_made, off_is, on_is}
use Rattle.words.proofs.Sums.{sum_ext, sum_add, sum_first, sum_const, sum_zero, sum_cut, least_step, least_ext, least_below_lem, least_at, least_is, least_none}
use Rattle.words.proofs.Cases.{lt_or_ge, same_or, pick_le}

-- ---- a word
ones_sum : (k w : ℕ) → w < 2 ^ k → ones w ≡ sum_below k (bit w)
unfolding sum_below ones
ones_sum zero w l = let e : w ≡ 0 = omega arith in rw e
ones_sum (suc k) w l =
    let e : sum_below k (λ j. bit w (suc j)) ≡ ones (w / 2) = simp (bit_suc w) (sym (ones_sum k (w / 2) (omega (arith, pow-suc 2 k)))) in
    omega (arith, ones_step w, bit_zero w, sum_first k (bit w))

trailing_least : (k w : ℕ) → count_trailing_zeros k w ≡ least_below k (bit w)
unfolding least_below count_trailing_zeros
trailing_least zero w = refl
trailing_least (suc k) w =
    ap₂ under (sym (bit_zero w)) (trailing_least k (w / 2) ∙ sym (least_ext k (λ j. bit w (suc j)) (bit (w / 2)) (λ j m. bit_suc w j)))
    ∙ sym (least_step k (bit w))

-- ---- words
bit_at : (ws : ℕ → ℕ) (i k : ℕ) → k < 32 → bit_of ws (32 * i + k) ≡ bit (ws i) k
bit_at ws i k l =
    let a : (32 * i + k) / 32 ≡ i = omega arith in
    let b : (32 * i + k) % 32 ≡ k = omega arith in
    rw (a, b)

-- one word more
pub ones_on : (ws : ℕ → ℕ) (i : ℕ) → ws i < 2 ^ 32 → sum_below (32 * (i + 1)) (bit_of ws) ≡ sum_below (32 * i) (bit_of ws) + ones (ws i)
ones_on ws i l =
    let e : sum_below 32 (λ k. bit_of ws (32 * i + k)) ≡ ones (ws i) = sum_ext 32 _ (bit (ws i)) (bit_at ws i) ∙ sym (ones_sum 32 (ws i) l) in
    ap (λ (n : ℕ). sum_below n (bit_of ws)) {x = 32 * (i + 1)} {y = 32 * i + 32} (omega arith) ∙ omega (arith, sum_add (32 * i) 32 (bit_of ws))

counted : (k : ℕ) (ws : ℕ → ℕ) → Fit k ws → sum_below k (λ j. ones (ws j)) ≡ sum_below (32 * k) (bit_of ws)
unfolding sum_below
counted zero ws fit = refl
counted (suc k) ws fit = rw (counted k ws (λ j l. fit j (omega arith))) (rw (← add-one k) (sym (ones_on ws k (fit k (omega arith)))))

lowest : (k : ℕ) (ws : ℕ → ℕ) (j : ℕ) → j < k → ws j < 2 ^ 32 → ((i : ℕ) → i < j → ws i ≡ 0) → (ws j ≡ 0 → ⊥)
    → least_below (32 * k) (bit_of ws) ≡ 32 * j + count_trailing_zeros 32 (ws j)
lowest k ws j l fit none some =
    rw (trailing_least 32 (ws j))
    (least_is (32 * k) (bit_of ws) (32 * j + t) (omega (arith, here))
    (λ q m.
    ⊎_elim (λ h. rw (none (q / 32) h) (bit_of_zero (q % 32)))
    (λ h. let e : q / 32 ≡ j = omega (arith, here) in rw e (least_below_lem 32 (bit (ws j)) (q % 32) (omega arith)))
    (lt_or_ge (q / 32) j))
    (λ z. least_at 32 (bit (ws j)) here (sym (bit_at ws j t here) ∙ z)))
  where
    t : ℕ
    t = least_below 32 (bit (ws j))

    here : t < 32
    here =
        ⊎_elim (λ h. h)
        (λ h.
        let none : (i : ℕ) → i < 32 → bit (ws j) i ≡ 0 = λ i m. least_below_lem 32 (bit (ws j)) i (omega arith) in
        absurd (some (sym (sum_of_bits 32 (ws j) fit) ∙ sum_zero 32 _ (λ i m. rw (none i m) (zero-mul (2 ^ i))))))
        (lt_or_ge t 32)

no_lowest : (k : ℕ) (ws : ℕ → ℕ) → ((j : ℕ) → j < k → ws j ≡ 0) → least_below (32 * k) (bit_of ws) ≡ 32 * k
no_lowest k ws none = least_none (32 * k) (bit_of ws) (λ p l. rw (none (p / 32) (omega arith)) (bit_of_zero (p % 32)))

-- ---- the word of place p gets b for p's bit
with_bit : (k : ℕ) (ws ws' : ℕ → ℕ) (p v b : ℕ) → b ≤ 1 → v + bit (ws (p / 32)) (p % 32) * 2 ^ (p % 32) ≡ ws (p / 32) + b * 2 ^ (p % 32)
    → Fit k ws → p < 32 * k → With k ws (p / 32) v ws' → WithBit k ws p b ws'
with_bit k ws ws' p v b small is fit l x =
    let made = bit_made 32 (ws (p / 32)) (p % 32) v b (omega arith) (fit (p / 32) (omega arith)) small is in
    record {
      fit = λ j h. ⊎_elim (λ e. rw e (rw x.here made.0)) (λ n. rw (x.others j h n) (fit j h)) (same_or j (p / 32));
      here = rw x.here made.1;
      others = λ q h n.
          ⊎_elim (λ e. rw e (rw x.here (made.2 (q % 32) (omega arith) (λ i. n (omega arith)))))
          (λ ne. rw (x.others (q / 32) (omega arith) ne)) (same_or (q / 32) (p / 32));
    }

-- ---- the words that say f
exact_bits : (k : ℕ) (ws f : ℕ → ℕ) → ((p : ℕ) → f p ≤ 1) → ((j : ℕ) → j < k → ws j ≡ word_of f j)
    → Fit k ws × ((p : ℕ) → p < 32 * k → bit_of ws p ≡ f p)
unfolding word_of
exact_bits k ws f le e = (
  λ j l. rw (e j l) (sum_fits 32 (λ i. f (32 * j + i)) (λ i. le (32 * j + i))),
  λ p l.
      let at : 32 * (p / 32) + p % 32 ≡ p = omega arith in
      rw (e (p / 32) (omega arith)) (bit_sum 32 (λ i. f (32 * (p / 32) + i)) (λ i. le (32 * (p / 32) + i)) (p % 32) (omega arith) ∙ rw at refl),
)

exact_words : (k : ℕ) (ws f : ℕ → ℕ) → Fit k ws → ((p : ℕ) → p < 32 * k → bit_of ws p ≡ f p) → (j : ℕ) → j < k → ws j ≡ word_of f j
unfolding word_of
exact_words k ws f fit e j l =
    sym (sum_of_bits 32 (ws j) (fit j l)) ∙ sum_ext 32 _ _ (λ i h. ap (λ (x : ℕ). x * 2 ^ i) (sym (bit_at ws j i h) ∙ e (32 * j + i) (omega arith)))

-- ---- a fresh map: c of word j's places are below n
module _ (n : ℕ) where
  first_one : (p : ℕ) → p < n → first_places n p ≡ 1
  first_one p l = rw (lt-ltb p n l)

  first_none : (p : ℕ) → n ≤ p → first_places n p ≡ 0
  first_none p l = rw (le-ltb p n l)

  fresh_word : (j c : ℕ) → c ≤ 32 → ((i : ℕ) → i < c → 32 * j + i < n) → ((i : ℕ) → c ≤ i → i < 32 → n ≤ 32 * j + i)
      → word_of (first_places n) j + 1 ≡ 2 ^ c
  unfolding word_of
  fresh_word j c l below past =
      let f : ℕ → ℕ = λ i. first_places n (32 * j + i) in
      rw (sum_cut c 32 (λ i. f i * 2 ^ i) l (λ i h m. rw (first_none (32 * j + i) (past i h m)) (zero-mul (2 ^ i))))
      (low_ones c f (λ i h. first_one (32 * j + i) (below i h)))

  fresh_count : (k : ℕ) → n ≤ 32 * k → sum_below (32 * k) (bit_of (word_of (first_places n))) ≡ n
  fresh_count k l =
      let le : (p : ℕ) → first_places n p ≤ 1 = λ p. pick_le (ltb p n) 1 0 1 (omega arith) (omega arith) in
      sum_ext (32 * k) _ (first_places n) (exact_bits k (word_of (first_places n)) (first_places n) le (λ j _. refl)).1
      ∙ sum_cut n (32 * k) (first_places n) l (λ p h _. first_none p h)
      ∙ sum_ext n (first_places n) (λ p. 1) first_one
      ∙ omega (arith, sum_const n 1)

-- ---- the facts
pub map_facts : (k : ℕ) → MapFacts k
map_facts k =
    record {
      counted = counted k;
      lowest = lowest k;
      no_lowest = no_lowest k;
      cleared = λ ws ws' p. with_bit k ws ws' p _ 0 (omega arith) (off_is (ws (p / 32)) (p % 32));
      set = λ ws ws' p. with_bit k ws ws' p _ 1 (omega arith) (on_is (ws (p / 32)) (p % 32));
      exact_bits = exact_bits k;
      exact_words = exact_words k;
      fresh_full = λ n j l. omega (arith, fresh_word n j 32 (omega arith) (λ i h. omega arith) (λ i h m. absurd (omega arith)));
      fresh_part = λ n j c e l. omega (arith, fresh_word n j c (omega arith) (λ i h. omega arith) (λ i h m. omega arith));
      fresh_empty = λ n j l. omega (arith, fresh_word n j 0 (omega arith) (λ i h. absurd (omega arith)) (λ i h m. omega arith));
      fresh_count = λ n. fresh_count n k;
    }
