-- A word of the free map, summed bit by bit. Assumes nothing.
use Prim.Native.Nat.{ℕ, ◌+◌, ◌*◌, ◌%◌, ◌^◌, ◌≤◌, ◌<◌}
use mathlib.Core.Path.{◌≡◌, refl, sym}
use native.Mathlib.Nat.{zero-mul, lt_of_lt_of_le}
use native.Mathlib.Omega.{arith}
use lib.Dec.{eqb, ltb}
use lib.Pow.{pow_mono, shl_exact}
use borrow.Author.Tests.{eq-eqb, ne_eqb, lt-ltb, le-ltb}
use Rattle.words.specs.Words.{sum_below, pick}
use Rattle.words.proofs.Cases.{pick_le}
use Rattle.words.proofs.Bits.{sum_fits}
use Rattle.words.proofs.Sums.{sum_suc, sum_zero}
use Rattle.accept.specs.Accept.{Words, free_flag, map_word}

module _ (n : ℕ) (w : Words) (p : ℕ) where
  pub past_pages : n ≤ p → 0 ≡ free_flag n w p
  unfolding free_flag
  past_pages l = simp (le-ltb p n l)

  pub in_use : p < n → (w p 0 ≡ 0 → ⊥) → 0 ≡ free_flag n w p
  unfolding free_flag
  in_use l u = simp (lt-ltb p n l, ne_eqb (w p 0) 0 u)

  pub is_free : p < n → w p 0 ≡ 0 → 1 ≡ free_flag n w p
  unfolding free_flag
  is_free l e = simp (lt-ltb p n l, eq-eqb (w p 0) 0 e)

  pub free_le : free_flag n w p ≤ 1
  unfolding free_flag
  free_le =
      pick_le (ltb p n) (pick (eqb (w p 0) 0) 1 0) 0 1 (pick_le (eqb (w p 0) 0) 1 0 1 (omega arith) (omega arith)) (omega arith)

-- the i lowest bits of word j
unfoldable pub low_bits : ℕ → Words → ℕ → ℕ → ℕ
low_bits n w j i = sum_below i (λ k. free_flag n w (32 * j + k) * 2 ^ k)

module _ (n : ℕ) (w : Words) (j : ℕ) where
  pub low_none : 0 ≡ low_bits n w j 0
  unfolding low_bits sum_below
  low_none = refl

  pub low_all : low_bits n w j 32 ≡ map_word n w j
  unfolding low_bits map_word
  low_all = refl

  -- no page of the word is below n
  pub map_past : n ≤ 32 * j → 0 ≡ map_word n w j
  unfolding map_word
  map_past l = sym (sum_zero 32 _ (λ i _. rw (← past_pages n w (32 * j + i) (omega arith)) (zero-mul (2 ^ i))))

  -- one bit more, as the code adds it
  module _ {i r sum : ℕ} (l : i < 32) (e : r ≡ free_flag n w (32 * j + i)) (s : sum ≡ low_bits n w j i) where
    pub low_more : sum + (r * 2 ^ i) % 4294967296 ≡ low_bits n w j (i + 1)
    unfolding low_bits
    low_more =
        let x : (r * 2 ^ i) % 4294967296 ≡ r * 2 ^ i = shl_exact 1 i 32 (omega (arith, free_le n w (32 * j + i))) (omega arith) in
        rw x (rw e (rw s (sym (sum_suc i _))))

    pub low_room : sum + (r * 2 ^ i) % 4294967296 < 4294967296
    unfolding low_bits
    low_room =
        let small = sum_fits (i + 1) (λ k. free_flag n w (32 * j + k)) (λ k. free_le n w (32 * j + k)) in
        rw low_more (lt_of_lt_of_le small (pow_mono {i = i + 1} {j = 32} (omega arith)))
