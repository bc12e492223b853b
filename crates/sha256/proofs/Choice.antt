-- Ch by three operations, for words of k bits. Assumes nothing.
use Rattle.std.proofs.Common.{◌≡◌, ℕ, zero, suc, ◌-◌, ◌/◌, ◌%◌, ◌^◌, ◌<◌, refl, pow-suc, arith}
use lib.Bits.{bit_and, bit_xor, and_shr, xor_shr, and_mod, xor_mod}

two : (P : ℕ → Type 0) → P 0 → P 1 → (a : ℕ) → a < 2 → P a
two P p q zero h = p
two P p q (suc zero) h = q
two P p q (suc (suc a)) h = absurd (omega arith)

digit : (a : ℕ) → a < 2 → (b : ℕ) → b < 2 → (c : ℕ) → c < 2 → bit_xor (bit_and (bit_xor b c) a) c ≡ bit_xor (bit_and a b) (bit_and (1 - a) c)
digit =
    two (λ a. (b : ℕ) → b < 2 → (c : ℕ) → c < 2 → bit_xor (bit_and (bit_xor b c) a) c ≡ bit_xor (bit_and a b) (bit_and (1 - a) c))
    (two (λ b. (c : ℕ) → c < 2 → bit_xor (bit_and (bit_xor b c) 0) c ≡ bit_xor (bit_and 0 b) (bit_and 1 c))
    (two (λ c. bit_xor (bit_and (bit_xor 0 c) 0) c ≡ bit_xor (bit_and 0 0) (bit_and 1 c)) refl refl)
    (two (λ c. bit_xor (bit_and (bit_xor 1 c) 0) c ≡ bit_xor (bit_and 0 1) (bit_and 1 c)) refl refl))
    (two (λ b. (c : ℕ) → c < 2 → bit_xor (bit_and (bit_xor b c) 1) c ≡ bit_xor (bit_and 1 b) (bit_and 0 c))
    (two (λ c. bit_xor (bit_and (bit_xor 0 c) 1) c ≡ bit_xor (bit_and 1 0) (bit_and 0 c)) refl refl)
    (two (λ c. bit_xor (bit_and (bit_xor 1 c) 1) c ≡ bit_xor (bit_and 1 1) (bit_and 0 c)) refl refl))

halves : (a b : ℕ) → a / 2 ≡ b / 2 → a % 2 ≡ b % 2 → a ≡ b
halves a b p q = omega arith

module _ (k x y z : ℕ) (hx : x < 2 ^ suc k) where
  high : ((2 ^ suc k - 1) - x) / 2 ≡ (2 ^ k - 1) - x / 2
  high = omega (arith, pow-suc 2 k)

  low : ((2 ^ suc k - 1) - x) % 2 ≡ 1 - x % 2
  low = omega (arith, pow-suc 2 k)

small : (k x : ℕ) → x < 2 ^ suc k → x / 2 < 2 ^ k
small k x h = omega (arith, pow-suc 2 k)

pub ch3 : (k x y z : ℕ) → x < 2 ^ k → y < 2 ^ k → z < 2 ^ k
    → bit_xor (bit_and (bit_xor y z) x) z ≡ bit_xor (bit_and x y) (bit_and ((2 ^ k - 1) - x) z)
ch3 zero x y z hx hy hz =
    let ex : x ≡ 0 = omega arith in
    let ey : y ≡ 0 = omega arith in
    let ez : z ≡ 0 = omega arith in
    rw (ex, ey, ez)
ch3 (suc k) x y z hx hy hz =
    halves _ _
    (rw (xor_shr (bit_and (bit_xor y z) x) z 1, and_shr (bit_xor y z) x 1, xor_shr y z 1, xor_shr (bit_and x y) (bit_and ((2 ^ suc k - 1) - x) z) 1, and_shr x y 1, and_shr ((2 ^ suc k - 1) - x) z 1, high k x y z hx)
    (ch3 k (x / 2) (y / 2) (z / 2) (small k x hx) (small k y hy) (small k z hz)))
    (rw (xor_mod (bit_and (bit_xor y z) x) z 1, and_mod (bit_xor y z) x 1, xor_mod y z 1, xor_mod (bit_and x y) (bit_and ((2 ^ suc k - 1) - x) z) 1, and_mod x y 1, and_mod ((2 ^ suc k - 1) - x) z 1, low k x y z hx)
    (digit (x % 2) (omega arith) (y % 2) (omega arith) (z % 2) (omega arith)))
