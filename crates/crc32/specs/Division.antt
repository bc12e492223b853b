-- The frame check sequence of IEEE 802.3 as the standard tells it, in its order: a division of polynomials over the field of two elements. Such a polynomial is a
-- number whose bit i is the coefficient of x^i; the sum of two is their exclusive or, and A(x) x^k is A * 2 ^ k. Assumes nothing.
use Rattle.std.specs.Prelude.{ℕ, ◌+◌, ◌-◌, ◌*◌, ◌^◌, ◌<◌, List, ◌≡◌, length}
use Rattle.std.specs.Int.Bits.{bit_xor}
use Rattle.words.specs.Words.{word_bits, sum_below}
use Rattle.words.specs.Bytes.{byte_bits}
use Rattle.crc32.specs.Crc32.{polynomial, mirrored, ones, crc32, bit_at}

-- the generating polynomial G(x), its x^32 with the rest
abbrev pub generator : ℕ
generator = 2 ^ word_bits + polynomial

-- equal to A(x) but for multiples of G(x): A(x) itself, and what G(x) x^k is added to
pub data Congruent (A : ℕ) : ℕ → Type 0 where
  itself : Congruent A A
  plus : {B : ℕ} (k : ℕ) → Congruent A B → Congruent A (bit_xor B (generator * 2 ^ k))

-- n, the number of bits
abbrev pub bit_count : List ℕ → ℕ
bit_count bs = byte_bits * length bs

-- the n bits are the coefficients of a polynomial M(x) of degree n - 1: the first bit sent is that of x^(n - 1), the last that of x^0
unfoldable pub sent : List ℕ → ℕ
sent bs = sum_below (bit_count bs) (λ i. bit_at bs (bit_count bs - 1 - i) * 2 ^ i)

-- the first 32 bits are complemented: those of x^(n - 1) to x^(n - 32)
unfoldable pub complemented : List ℕ → ℕ
complemented bs = bit_xor (sent bs) (ones * 2 ^ (bit_count bs - word_bits))

-- the CRC of a list of four bytes or more is what the standard says
pub record IsTheStandards (bs : List ℕ) : Type 0 where
  -- M(x) is multiplied by x^32 and divided by G(x), which leaves a remainder R(x) of degree at most 31
  pub remainder : ℕ
  pub small : remainder < 2 ^ word_bits
  pub divided : Congruent (complemented bs * 2 ^ word_bits) remainder
  -- the coefficients of R(x), that of x^31 first, which is bit 0 as bits are sent, are 32 bits in a row; complemented, they are the CRC
  pub sequence : crc32 bs ≡ ones - mirrored remainder
