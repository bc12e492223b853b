-- The tables that the code uses. Assumes nothing.
use Rattle.std.specs.Prelude.{ℕ, ◌+◌, ◌*◌, ◌^◌, ◌<◌, ◌≡◌, List, length, get_or}
use Rattle.words.specs.Bytes.{byte_bits, word_bytes}
use Rattle.crc32.specs.Crc32.{bits_in}

abbrev pub byte_values : ℕ
byte_values = 2 ^ byte_bits

-- what is left of byte i after itself and k bytes of zeros
unfoldable pub slice_at : ℕ → ℕ → ℕ
slice_at k i = bits_in (byte_bits * (k + 1)) i 0

-- a table for each k of 0 to 3, one after the other
pub record Slices (T : List ℕ) : Type 0 where
  pub size : length T ≡ word_bytes * byte_values
  pub each : (k i : ℕ) → k < word_bytes → i < byte_values → get_or T (byte_values * k + i) 0 ≡ slice_at k i
