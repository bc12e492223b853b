-- The CRC-32 of IEEE 802.3, its frame check sequence, bit by bit. Assumes nothing.
use Rattle.std.specs.Prelude.{ℕ, zero, suc, ◌+◌, ◌-◌, ◌*◌, ◌/◌, ◌%◌, ◌^◌, List, [], ◌∷◌, get_or}
use Rattle.std.specs.Int.Bits.{bit_xor}
use Rattle.words.specs.Words.{word_bits, bit, sum_below}
use Rattle.words.specs.Bytes.{byte_bits}

-- G(x) = x^32 + x^26 + x^23 + x^22 + x^16 + x^12 + x^11 + x^10 + x^8 + x^7 + x^5 + x^4 + x^2 + x + 1: the coefficient of x^i as bit i, that of
-- x^32 left out
abbrev pub polynomial : ℕ
polynomial = 0x04C11DB7

-- bits are sent low first, so that bit i of a remainder is the coefficient of x^(31 - i): a word the other way round
unfoldable pub mirrored : ℕ → ℕ
mirrored w = sum_below word_bits (λ i. bit w (word_bits - 1 - i) * 2 ^ i)

-- one bit b of the message more: the remainder c times x, plus b x^32, modulo G(x). What leaves at x^32, or comes in there, is divided out
unfoldable pub bit_in : ℕ → ℕ → ℕ
bit_in c b = bit_xor (c / 2) ((c + b) % 2 * mirrored polynomial)

-- the k low bits of x, the lowest first
unfoldable pub bits_in : ℕ → ℕ → ℕ → ℕ
bits_in zero c x = c
bits_in (suc k) c x = bits_in k (bit_in c (x % 2)) (x / 2)

-- the bytes in order
unfoldable pub bytes_in : ℕ → List ℕ → ℕ
bytes_in c [] = c
bytes_in c (x ∷ xs) = bytes_in (bits_in byte_bits c x) xs

-- begun with ones, and complemented at the end
abbrev pub ones : ℕ
ones = 2 ^ word_bits - 1

unfoldable pub crc32 : List ℕ → ℕ
crc32 bytes = ones - bytes_in ones bytes

-- bit i of a list of bytes: low first in each byte, bytes in order, as the standard sends them
unfoldable pub bit_at : List ℕ → ℕ → ℕ
bit_at bs i = bit (get_or bs (i / byte_bits) 0) (i % byte_bits)
