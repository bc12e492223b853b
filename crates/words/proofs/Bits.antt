-- The bits of a word: halving, a word as the sum of its bits, and one bit made 0 or made 1. Assumes nothing.
use Prim.Native.Nat.{ℕ, zero, suc, ◌+◌, ◌*◌, ◌-◌, ◌/◌, ◌%◌, ◌^◌, ◌≤◌, ◌<◌}
use mathlib.Core.Path.{◌≡◌, refl, sym, ap, ◌∙◌}
use mathlib.Core.Logic.{◌⊎◌, ⊎_elim, inl, inr}
use native.Mathlib.Nat.{pow-suc, mul_assoc, one-mul, le_of_suc-le-suc}
use native.Mathlib.Omega.{arith}
use lib.Pow.{shr-shr, shl_exact}
use lib.Bits.{bit_and, bit_or, or_add_and, and_le_l, and_comm}
use Rattle.std.proofs.lemmas.Nat.{pow_below, and-not}
use Rattle.std.proofs.lemmas.Nat.Bits.{and_pow}
use lib.Dec.{lit<, eqb}
use borrow.Author.Tests.{eq-eqb, ne_eqb}
use Rattle.words.specs.Words.{pick, bit, bit_off, bit_on, sum_below}
use Rattle.words.proofs.Cases.{same_or, pick_le}
use Rattle.words.proofs.Sums.{sum_change}

-- ---- the lowest bit, and the others
pub bit_zero : (w : ℕ) → bit w 0 ≡ w % 2
unfolding bit
bit_zero w = omega arith

pub bit_suc : (w j : ℕ) → bit w (suc j) ≡ bit (w / 2) j
unfolding bit
bit_suc w j = ap (λ (x : ℕ). x % 2) (ap (λ (k : ℕ). w / 2 ^ k) {x = suc j} {y = 1 + j} (omega arith) ∙ sym (shr-shr w 1 j))

pub bit_le : (w j : ℕ) → bit w j ≤ 1
unfolding bit
bit_le w j = omega arith

pub bit_of_zero : (j : ℕ) → bit 0 j ≡ 0
bit_of_zero zero = bit_zero 0
bit_of_zero (suc j) = bit_suc 0 j ∙ bit_of_zero j

-- the code's 1 << j
pub shift : (j : ℕ) → j < 32 → (1 * 2 ^ j) % 4294967296 ≡ 2 ^ j
shift j l = shl_exact 1 j 32 (lit< tt) (omega arith) ∙ one-mul (2 ^ j)

-- ---- a word as the sum of its bits
sum_shift : (n : ℕ) (f : ℕ → ℕ) → sum_below (suc n) (λ i. f i * 2 ^ i) ≡ f 0 + 2 * sum_below n (λ i. f (suc i) * 2 ^ i)
unfolding sum_below
sum_shift zero f = omega arith
sum_shift (suc n) f =
    let e : f (suc n) * 2 ^ suc n ≡ f (suc n) * 2 ^ n * 2 = ap (λ (x : ℕ). f (suc n) * x) (pow-suc 2 n) ∙ sym (mul_assoc (f (suc n)) (2 ^ n) 2) in
    omega (arith, sum_shift n f)

pub bit_sum : (n : ℕ) (f : ℕ → ℕ) → ((i : ℕ) → f i ≤ 1) → (j : ℕ) → j < n → bit (sum_below n (λ i. f i * 2 ^ i)) j ≡ f j
bit_sum zero f le j l = absurd (omega arith)
bit_sum (suc n) f le zero l = rw (bit_zero, sum_shift n f) (omega (arith, le 0))
bit_sum (suc n) f le (suc j) l =
    let S = sum_below (suc n) (λ i. f i * 2 ^ i) in
    let T = sum_below n (λ i. f (suc i) * 2 ^ i) in
    let h : S / 2 ≡ T = omega (arith, sum_shift n f, le 0) in
    bit_suc S j ∙ ap (λ (x : ℕ). bit x j) h ∙ bit_sum n (λ i. f (suc i)) (λ i. le (suc i)) j (le_of_suc-le-suc l)

pub sum_fits : (n : ℕ) (f : ℕ → ℕ) → ((i : ℕ) → f i ≤ 1) → sum_below n (λ i. f i * 2 ^ i) < 2 ^ n
unfolding sum_below
sum_fits zero f le = omega arith
sum_fits (suc n) f le = omega (arith, sum_shift n f, le 0, sum_fits n (λ i. f (suc i)) (λ i. le (suc i)), pow-suc 2 n)

pub sum_of_bits : (n w : ℕ) → w < 2 ^ n → sum_below n (λ i. bit w i * 2 ^ i) ≡ w
unfolding sum_below
sum_of_bits zero w l = omega arith
sum_of_bits (suc n) w l =
    let e : sum_below n (λ i. bit w (suc i) * 2 ^ i) ≡ w / 2 = simp (bit_suc w) (sum_of_bits n (w / 2) (omega (arith, pow-suc 2 n))) in
    omega (arith, sum_shift n (bit w), bit_zero w)

-- all of them 1
pub low_ones : (n : ℕ) (f : ℕ → ℕ) → ((i : ℕ) → i < n → f i ≡ 1) → sum_below n (λ i. f i * 2 ^ i) + 1 ≡ 2 ^ n
unfolding sum_below
low_ones zero f one = refl
low_ones (suc n) f one = rw (one n (omega arith)) (omega (arith, low_ones n f (λ i l. one i (omega arith)), pow-suc 2 n))

-- ---- a word v that is w with b for its bit k
pub bit_made : (n w k v b : ℕ) → k < n → w < 2 ^ n → b ≤ 1 → v + bit w k * 2 ^ k ≡ w + b * 2 ^ k
    → (v < 2 ^ n) × (bit v k ≡ b) × ((j : ℕ) → j < n → (j ≡ k → ⊥) → bit v j ≡ bit w j)
bit_made n w k v b l fits small is = (
  rw sum (sum_fits n made le),
  rw sum (bit_sum n made le k l ∙ here),
  λ j h ne. rw sum (bit_sum n made le j h ∙ other j ne),
)
  where
    made : ℕ → ℕ
    made i = pick (eqb i k) b (bit w i)

    le : (i : ℕ) → made i ≤ 1
    le i = pick_le (eqb i k) b (bit w i) 1 small (bit_le w i)

    here : made k ≡ b
    here = rw (eq-eqb k k refl)

    other : (i : ℕ) → (i ≡ k → ⊥) → made i ≡ bit w i
    other i ne = rw (ne_eqb i k ne)

    sum : v ≡ sum_below n (λ i. made i * 2 ^ i)
    sum =
        omega (
          arith,
          sum_change n k (λ i. made i * 2 ^ i) (λ i. bit w i * 2 ^ i) l (λ i _ ne. ap (λ (x : ℕ). x * 2 ^ i) (other i ne)),
          ap (λ (x : ℕ). x * 2 ^ k) here,
          sum_of_bits n w fits,
        )

pub add_fits : (n w k : ℕ) → k < n → w < 2 ^ n → bit w k ≡ 0 → w + 2 ^ k < 2 ^ n
add_fits n w k l f z = (bit_made n w k (w + 2 ^ k) 1 l f (omega arith) (rw z (omega arith))).0

-- ---- bit_off and bit_on
pub sub_le : (w k : ℕ) → bit w k ≡ 1 → 2 ^ k ≤ w
sub_le w zero o = omega (arith, bit_zero w)
sub_le w (suc k) o = omega (arith, pow-suc 2 k, sub_le (w / 2) k (sym (bit_suc w k) ∙ o))

module _ (w k : ℕ) where
  pub off_one : bit w k ≡ 1 → bit_off w k ≡ w - 2 ^ k
  unfolding bit_off
  off_one o = rw (o, one-mul)

  pub off_zero : bit w k ≡ 0 → bit_off w k ≡ w
  unfolding bit_off
  off_zero z = rw z (omega arith)

  pub on_zero : bit w k ≡ 0 → bit_on w k ≡ w + 2 ^ k
  unfolding bit_on
  on_zero z = rw (z, one-mul)

  pub on_one : bit w k ≡ 1 → bit_on w k ≡ w
  unfolding bit_on
  on_one o = rw o (omega arith)

  -- what `w & 1 << k` is
  and_bit : bit_and w (2 ^ k) ≡ bit w k * 2 ^ k
  unfolding bit
  and_bit = and_pow w k

  pub off_is : bit_off w k + bit w k * 2 ^ k ≡ w + 0 * 2 ^ k
  unfolding bit_off
  off_is = omega (arith, and_bit, and_le_l w (2 ^ k))

  zero_or_one : (bit w k ≡ 0) ⊎ (bit w k ≡ 1)
  zero_or_one = ⊎_elim inl (λ n. inr (omega (arith, bit_le w k))) (same_or (bit w k) 0)

  pub on_is : bit_on w k + bit w k * 2 ^ k ≡ w + 1 * 2 ^ k
  on_is = ⊎_elim (λ z. rw (on_zero z) (rw z (omega arith))) (λ o. rw (on_one o) (rw o refl)) zero_or_one

  module _ (l : k < 32) where
    -- `w | 1 << k` and `w & !(1 << k)`
    pub or_bit : bit_or w (1 * 2 ^ k % 4294967296) ≡ bit_on w k
    or_bit = rw (shift k l) (omega (arith, or_add_and w (2 ^ k), and_bit, on_is))

    pub and_not_bit : w < 2 ^ 32 → bit_and w (4294967295 - 1 * 2 ^ k % 4294967296) ≡ bit_off w k
    and_not_bit f =
        let b : 2 ^ k < 2 ^ 32 = pow_below k 32 l in
        rw (shift k l)
        (omega (arith, and-not 32 (2 ^ k) w b f, and_comm w (4294967295 - 2 ^ k), and_comm w (2 ^ k), and_bit, off_is))
