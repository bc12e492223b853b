-- The register of the CRC: exclusive or, the register as a linear map, bits of the message as bits of the register, and a message in parts.
-- Assumes nothing.
use Prim.Native.Nat.{ℕ, zero, suc, ◌+◌, ◌-◌, ◌*◌, ◌/◌, ◌%◌, ◌^◌, ◌≤◌, ◌<◌}
use mathlib.Core.Path.{◌≡◌, refl, sym, ap, ap₂, ◌∙◌}
use mathlib.Core.List.{List, [], ◌∷◌, ◌++◌}
use native.Mathlib.Nat.{pow-suc, suc-add, zero-add, zero-mul, add_assoc, mod-lt, mul-one, div-one}
use native.Mathlib.Numerals.{add-one}
use native.Mathlib.Omega.{arith}
use lib.Arith.{bin_ind, digits_div}
use lib.Bits.{bit_xor, xor_add_and, xor_comm, xor_zero_r, xor_shr, xor_shifted, xor_lt, xor_self, shifted_half, shifted_even, block_half, block_odd}
use lib.ListN.{length, get_or, take, drop}
use lib.Seq.{take-suc, drop-cons}
use lib.Pow.{shr-shr, shr_mod, split, pow_pos}
use Rattle.words.specs.Words.{word_bits, bit, sum_below}
use Rattle.std.proofs.Common.{drop-drop, get_or-take, get_or-drop}
use Rattle.std.specs.Simd.{first_chunks}
use Rattle.words.specs.Bytes.{AreBytes, word_at}
use Rattle.crc32.specs.Crc32.{polynomial, mirrored, bit_in, bits_in, bytes_in, ones, crc32}
use Rattle.crc32.specs.Slices.{Slices, slice_at}

-- ---- exclusive or
pub xor_half : (a b : ℕ) → bit_xor a b / 2 ≡ bit_xor (a / 2) (b / 2)
xor_half a b = xor_shr a b 1

pub xor_odd : (a b : ℕ) → bit_xor a b % 2 ≡ (a + b) % 2
xor_odd a b = omega (arith, xor_add_and a b)

-- two numbers are equal when their halves and their low bits are
pub digits : {x y : ℕ} → x / 2 ≡ y / 2 → x % 2 ≡ y % 2 → x ≡ y
digits h o = omega arith

odd_left : (x y c : ℕ) → x % 2 ≡ y % 2 → (x + c) % 2 ≡ (y + c) % 2
odd_left x y c e = omega arith

odd_right : (c x y : ℕ) → x % 2 ≡ y % 2 → (c + x) % 2 ≡ (c + y) % 2
odd_right c x y e = omega arith

pub xor_assoc : (a b c : ℕ) → bit_xor (bit_xor a b) c ≡ bit_xor a (bit_xor b c)
xor_assoc a =
    bin_ind (λ (n : ℕ). (b c : ℕ) → bit_xor (bit_xor n b) c ≡ bit_xor n (bit_xor b c)) (λ b c. refl)
    (λ n ih b c.
    digits
    (xor_half (bit_xor n b) c ∙ ap (λ (x : ℕ). bit_xor x (c / 2)) (xor_half n b) ∙ ih (b / 2) (c / 2)
    ∙ ap (bit_xor (n / 2)) (sym (xor_half b c)) ∙ sym (xor_half n (bit_xor b c)))
    (xor_odd (bit_xor n b) c ∙ odd_left (bit_xor n b) (n + b) c (xor_odd n b) ∙ ap (λ (x : ℕ). x % 2) (add_assoc n b c)
    ∙ odd_right n (b + c) (bit_xor b c) (sym (xor_odd b c))
    ∙ sym (xor_odd n (bit_xor b c)))) a

pub xor_swap : (a b c d : ℕ) → bit_xor (bit_xor a b) (bit_xor c d) ≡ bit_xor (bit_xor a c) (bit_xor b d)
xor_swap a b c d =
    xor_assoc a b (bit_xor c d)
    ∙ ap (bit_xor a) (sym (xor_assoc b c d) ∙ ap (λ (x : ℕ). bit_xor x d) (xor_comm b c) ∙ xor_assoc c b d)
    ∙ sym (xor_assoc a c (bit_xor b d))

-- ---- one bit
pub odds : (u v p : ℕ) → u < 2 → v < 2 → bit_xor (u * p) (v * p) ≡ (u + v) % 2 * p
odds zero v p l m = ap (λ (x : ℕ). bit_xor x (v * p)) (zero-mul p) ∙ ap (λ (x : ℕ). x * p) {x = v} {y = (0 + v) % 2} (omega arith)
odds (suc zero) zero p l m = ap (bit_xor (1 * p)) (zero-mul p) ∙ xor_zero_r (1 * p)
odds (suc zero) (suc zero) p l m = xor_self (1 * p) ∙ sym (zero-mul p)
odds (suc zero) (suc (suc v)) p l m = absurd (omega arith)
odds (suc (suc u)) v p l m = absurd (omega arith)

-- the register is linear: of the registers' exclusive or, and of the messages'
one_linear : (c d x y e : ℕ) → e % 2 ≡ (x + y) % 2 → bit_in (bit_xor c d) e ≡ bit_xor (bit_in c x) (bit_in d y)
unfolding bit_in
one_linear c d x y e o =
    let P : ℕ = mirrored polynomial in
    ap₂ (λ (u v : ℕ). bit_xor u (v * P)) (xor_half c d)
    (odd_left (bit_xor c d) (c + d) e (xor_odd c d) ∙ odd_right (c + d) e (x + y) o ∙ regroup c d x y)
    ∙ ap (bit_xor (bit_xor (c / 2) (d / 2))) (sym (odds ((c + x) % 2) ((d + y) % 2) P (omega arith) (omega arith)))
    ∙ xor_swap (c / 2) (d / 2) ((c + x) % 2 * P) ((d + y) % 2 * P)
  where
    regroup : (c d x y : ℕ) → (c + d + (x + y)) % 2 ≡ ((c + x) % 2 + (d + y) % 2) % 2
    regroup c d x y = omega arith

pub linear : (k c d x y : ℕ) → bits_in k (bit_xor c d) (bit_xor x y) ≡ bit_xor (bits_in k c x) (bits_in k d y)
unfolding bits_in
linear zero c d x y = refl
linear (suc k) c d x y =
    ap₂ (bits_in k) (one_linear c d (x % 2) (y % 2) (bit_xor x y % 2) (even x y)) (xor_half x y)
    ∙ linear k (bit_in c (x % 2)) (bit_in d (y % 2)) (x / 2) (y / 2)
  where
    even : (x y : ℕ) → bit_xor x y % 2 % 2 ≡ (x % 2 + y % 2) % 2
    even x y = omega (arith, xor_odd x y)

-- ---- the low bits of the message may go into the register at once
pub absorb : (k c x : ℕ) → x < 2 ^ k → bits_in k c x ≡ bits_in k (bit_xor c x) 0
unfolding bits_in bit_in
absorb zero c x l = sym (xor_zero_r c) ∙ ap (bit_xor c) {x = 0} {y = x} (omega arith)
absorb (suc k) c x l =
    let P : ℕ = mirrored polynomial in
    let low : (c + x % 2) % 2 ≡ (bit_xor c x + 0) % 2 = omega (arith, xor_odd c x) in
    absorb k (bit_in c (x % 2)) (x / 2) (omega (arith, pow-suc 2 k))
    ∙ ap (λ (r : ℕ). bits_in k r 0)
    (xor_assoc (c / 2) ((c + x % 2) % 2 * P) (x / 2)
    ∙ ap (bit_xor (c / 2)) (xor_comm ((c + x % 2) % 2 * P) (x / 2))
    ∙ sym (xor_assoc (c / 2) (x / 2) ((c + x % 2) % 2 * P))
    ∙ ap₂ (λ (u v : ℕ). bit_xor u (v * P)) (sym (xor_half c x)) low)

-- ---- zeros go in
pub zeros : (k : ℕ) → bits_in k 0 0 ≡ 0
unfolding bits_in bit_in
zeros zero = refl
zeros (suc k) = ap (λ (r : ℕ). bits_in k r 0) (zero-mul (mirrored polynomial)) ∙ zeros k

-- what stands above bit k is bit 0 on after k of them
pub shift : (k j h : ℕ) → bits_in (k + j) (h * 2 ^ k) 0 ≡ bits_in j h 0
unfolding bits_in bit_in
shift zero j h = ap₂ (λ (m r : ℕ). bits_in m r 0) (zero-add j) (mul-one h)
shift (suc k) j h =
    let P : ℕ = mirrored polynomial in
    let low : (h * 2 ^ suc k + 0) % 2 ≡ 0 = omega (arith, shifted_even h k) in
    ap (λ (m : ℕ). bits_in m (h * 2 ^ suc k) 0) (suc-add k j)
    ∙ ap (λ (r : ℕ). bits_in (k + j) r 0)
    (ap₂ (λ (u v : ℕ). bit_xor u (v * P)) (shifted_half h k) low
    ∙ ap (bit_xor (h * 2 ^ k)) (zero-mul P)
    ∙ xor_zero_r (h * 2 ^ k))
    ∙ shift k j h

-- the low k bits of a register, and the others, apart
pub peel : (k j y : ℕ) → bits_in (k + j) y 0 ≡ bit_xor (bits_in j (y / 2 ^ k) 0) (bits_in (k + j) (y % 2 ^ k) 0)
peel k j y =
    ap (λ (r : ℕ). bits_in (k + j) r 0) (sym (split y k) ∙ sym (xor_shifted (y / 2 ^ k) k (y % 2 ^ k) (mod-lt y (pow_pos k))))
    ∙ linear (k + j) (y / 2 ^ k * 2 ^ k) (y % 2 ^ k) 0 0
    ∙ ap (λ (r : ℕ). bit_xor r (bits_in (k + j) (y % 2 ^ k) 0)) (shift k j (y / 2 ^ k))

-- ---- a message in parts
pub parts : (j k c x : ℕ) → bits_in (j + k) c x ≡ bits_in k (bits_in j c x) (x / 2 ^ j)
unfolding bits_in
parts zero k c x = ap₂ (λ (m r : ℕ). bits_in m c r) (zero-add k) (sym (div-one x))
parts (suc j) k c x =
    ap (λ (m : ℕ). bits_in m c x) (suc-add j k)
    ∙ parts j k (bit_in c (x % 2)) (x / 2)
    ∙ ap (bits_in k (bits_in j (bit_in c (x % 2)) (x / 2))) (shr-shr x 1 j ∙ ap (λ (m : ℕ). x / 2 ^ m) {x = 1 + j} {y = suc j} (omega arith))

-- only the low bits go in
pub only_low : (j c x y : ℕ) → bits_in j c (y * 2 ^ j + x) ≡ bits_in j c x
unfolding bits_in
only_low zero c x y = refl
only_low (suc j) c x y =
    ap₂ (λ (b m : ℕ). bits_in j (bit_in c b) m) (block_odd y j x) (block_half y j x) ∙ only_low j (bit_in c (x % 2)) (x / 2) y

-- a byte goes in before the rest of the number that it is the low byte of
pub byte_first : (k c b y : ℕ) → b < 256 → bits_in (8 + k) c (y * 256 + b) ≡ bits_in k (bits_in 8 c b) y
byte_first k c b y l = parts 8 k c (y * 256 + b) ∙ ap₂ (bits_in k) (only_low 8 c b y) (digits_div y l)

-- the four bytes of a word
word_bytes : (c a b d e : ℕ) → a < 256 → b < 256 → d < 256
    → bits_in 32 c (a + 256 * b + 65536 * d + 16777216 * e) ≡ bits_in 8 (bits_in 8 (bits_in 8 (bits_in 8 c a) b) d) e
word_bytes c a b d e la lb ld =
    ap (bits_in 32 c) {x = a + 256 * b + 65536 * d + 16777216 * e} {y = ((e * 256 + d) * 256 + b) * 256 + a} (omega arith)
    ∙ byte_first 24 c a ((e * 256 + d) * 256 + b) la
    ∙ byte_first 16 (bits_in 8 c a) b (e * 256 + d) lb
    ∙ byte_first 8 (bits_in 8 (bits_in 8 c a) b) d e ld

-- a list of bytes in two parts
pub two_parts : (c : ℕ) (xs ys : List ℕ) → bytes_in c (xs ++ ys) ≡ bytes_in (bytes_in c xs) ys
unfolding bytes_in
two_parts c [] ys = refl
two_parts c (x ∷ xs) ys = two_parts (bits_in 8 c x) xs ys

-- from a place on, one byte more
pub next_byte : (c : ℕ) (bs : List ℕ) (k : ℕ) → k < length bs → bytes_in c (drop k bs) ≡ bytes_in (bits_in 8 c (get_or bs k 0)) (drop (k + 1) bs)
unfolding bytes_in
next_byte c bs k l = rw (add-one, drop-cons bs k 0)

-- chunk k of four bytes
pub chunk_at : (n k : ℕ) (bs : List ℕ) → k < n → get_or (first_chunks 4 n bs) k [] ≡ take 4 (drop (4 * k) bs)
chunk_at zero k bs h = absurd (omega arith)
chunk_at (suc n) zero bs h = refl
chunk_at (suc n) (suc k) bs h =
    let e : 4 + 4 * k ≡ 4 * suc k = omega arith in
    chunk_at n k (drop 4 bs) (omega arith) ∙ ap (take 4) (drop-drop (4 * k) 4 bs ∙ ap (λ (i : ℕ). drop i bs) e)

-- from a place on, one word more
pub next_word : (c : ℕ) (bs p : List ℕ) (k w : ℕ) → AreBytes bs → 4 * k + 4 ≤ length bs → p ≡ take 4 (drop (4 * k) bs)
    → w ≡ get_or p 0 0 + get_or p 1 0 * 256 + get_or p 2 0 * 65536 + get_or p 3 0 * 16777216
    → bytes_in c (drop (4 * k) bs) ≡ bytes_in (bits_in 32 c w) (drop (4 * (k + 1)) bs)
next_word c bs p k w bytes l e f =
    let at : (i : ℕ) → i < 4 → get_or p i 0 ≡ get_or bs (4 * k + i) 0
    = λ i h. rw e (get_or-take 4 (drop (4 * k) bs) i 0 h ∙ get_or-drop (4 * k) bs i 0) in
    let next : (r i j : ℕ) → i + 1 ≡ j → i < length bs → bytes_in r (drop i bs) ≡ bytes_in (bits_in 8 r (get_or bs i 0)) (drop j bs)
    = λ r i j g h. next_byte r bs i h ∙ ap (λ (m : ℕ). bytes_in (bits_in 8 r (get_or bs i 0)) (drop m bs)) g in
    let z : 4 * k + 0 ≡ 4 * k = omega arith in
    let b : ℕ → ℕ = λ i. get_or bs (4 * k + i) 0 in
    ap (λ (m : ℕ). bytes_in c (drop m bs)) (sym z)
    ∙ next c (4 * k + 0) (4 * k + 1) (omega arith) (omega arith)
    ∙ next _ (4 * k + 1) (4 * k + 2) (omega arith) (omega arith)
    ∙ next _ (4 * k + 2) (4 * k + 3) (omega arith) (omega arith)
    ∙ next _ (4 * k + 3) (4 * (k + 1)) (omega arith) (omega arith)
    ∙ ap (λ (r : ℕ). bytes_in r (drop (4 * (k + 1)) bs))
    (sym (word_bytes c (b 0) (b 1) (b 2) (b 3) (bytes (4 * k + 0)) (bytes (4 * k + 1)) (bytes (4 * k + 2)))
    ∙ ap (bits_in 32 c) (omega (arith, at 0 (omega arith), at 1 (omega arith), at 2 (omega arith), at 3 (omega arith))))

-- one byte more
pub one_more : (c : ℕ) (bs : List ℕ) (i j : ℕ) → j ≡ suc i → i < length bs
    → bytes_in c (take j bs) ≡ bits_in 8 (bytes_in c (take i bs)) (get_or bs i 0)
unfolding bytes_in
one_more c bs i j e l =
    ap (λ (m : ℕ). bytes_in c (take m bs)) e ∙ ap (bytes_in c) (take-suc bs i 0 l) ∙ two_parts c (take i bs) (get_or bs i 0 ∷ [])

-- one word more
pub word_more : (c : ℕ) (bs : List ℕ) (k : ℕ) → AreBytes bs → 4 * k + 4 ≤ length bs
    → bytes_in c (take (4 * (k + 1)) bs) ≡ bits_in 32 (bytes_in c (take (4 * k) bs)) (word_at bs k)
unfolding word_at
word_more c bs k bytes l =
    one_more c bs (4 * k + 3) (4 * (k + 1)) (omega arith) (omega arith)
    ∙ ap (λ (r : ℕ). bits_in 8 r (at 3))
    (one_more c bs (4 * k + 2) (4 * k + 3) (omega arith) (omega arith)
    ∙ ap (λ (r : ℕ). bits_in 8 r (at 2))
    (one_more c bs (4 * k + 1) (4 * k + 2) (omega arith) (omega arith)
    ∙ ap (λ (r : ℕ). bits_in 8 r (at 1)) (one_more c bs (4 * k) (4 * k + 1) (omega arith) (omega arith))))
    ∙ sym (word_bytes (bytes_in c (take (4 * k) bs)) (get_or bs (4 * k) 0) (at 1) (at 2) (at 3) (bytes (4 * k)) (bytes (4 * k + 1)) (bytes (4 * k + 2)))
  where
    at : ℕ → ℕ
    at i = get_or bs (4 * k + i) 0

-- ---- by the tables: a byte, and a word
four : (a b d e : ℕ) → bit_xor (bit_xor (bit_xor e d) b) a ≡ bit_xor (bit_xor a b) (bit_xor d e)
four a b d e =
    xor_comm (bit_xor (bit_xor e d) b) a
    ∙ ap (bit_xor a) (xor_comm (bit_xor e d) b ∙ ap (bit_xor b) (xor_comm e d))
    ∙ sym (xor_assoc a b (bit_xor d e))

module _ (T : List ℕ) (S : Slices T) where
  pub byte_by : (c x : ℕ) → x < 256 → bit_xor (c / 256) (get_or T (bit_xor c x % 256) 0) ≡ bits_in 8 c x
  unfolding slice_at bits_in
  byte_by c x l =
      let e : x / 256 ≡ 0 = omega arith in
      let y : ℕ = bit_xor c x in
      sym
      (absorb 8 c x l
      ∙ peel 8 0 y
      ∙ ap₂ bit_xor (xor_shr c x 8 ∙ ap (bit_xor (c / 256)) e ∙ xor_zero_r (c / 256))
      (sym (S.each 0 (y % 256) (omega arith) (omega arith)) ∙ ap (λ (n : ℕ). get_or T n 0) (zero-add (y % 256))))

  pub word_by : (c w y : ℕ) → bit_xor c w ≡ y → c < 2 ^ word_bits → w < 2 ^ word_bits
      → bit_xor (bit_xor (get_or T (768 + y % 256) 0) (get_or T (512 + y / 256 % 256) 0))
      (bit_xor (get_or T (256 + y / 65536 % 256) 0) (get_or T (y / 16777216 % 256) 0))
      ≡ bits_in word_bits c w
  unfolding slice_at
  word_by c w y e l m =
      sym
      (absorb 32 c w m
      ∙ ap (λ (r : ℕ). bits_in 32 r 0) e
      ∙ peel 8 24 y
      ∙ ap₂ bit_xor
      (peel 8 16 (y / 256)
      ∙ ap₂ bit_xor
      (ap (λ (r : ℕ). bits_in 16 r 0) (shr-shr y 8 8)
      ∙ peel 8 8 (y / 65536)
      ∙ ap₂ bit_xor
      (ap (λ (r : ℕ). bits_in 8 r 0) (shr-shr y 16 8 ∙ sym (shr_mod 8 24 (rw (sym e) (xor_lt 32 c w l m))))
      ∙ sym (S.each 0 (y / 16777216 % 256) (omega arith) (omega arith))
      ∙ ap (λ (n : ℕ). get_or T n 0) (zero-add (y / 16777216 % 256)))
      (sym (S.each 1 (y / 65536 % 256) (omega arith) (omega arith))))
      (sym (S.each 2 (y / 256 % 256) (omega arith) (omega arith))))
      (sym (S.each 3 (y % 256) (omega arith) (omega arith)))
      ∙ four (get_or T (768 + y % 256) 0) (get_or T (512 + y / 256 % 256) 0) (get_or T (256 + y / 65536 % 256) 0) (get_or T (y / 16777216 % 256) 0))

-- ---- the register is a word
pub mirrored_is : mirrored polynomial ≡ 0xEDB88320
unfolding mirrored sum_below bit
mirrored_is = refl

pub bit_fits : (c b : ℕ) → c < 2 ^ word_bits → bit_in c b < 2 ^ word_bits
unfolding bit_in
bit_fits c b l = rw mirrored_is (xor_lt 32 (c / 2) ((c + b) % 2 * 0xEDB88320) (omega arith) (omega arith))

pub bits_fit : (k c x : ℕ) → c < 2 ^ word_bits → bits_in k c x < 2 ^ word_bits
unfolding bits_in
bits_fit zero c x l = l
bits_fit (suc k) c x l = bits_fit k (bit_in c (x % 2)) (x / 2) (bit_fits c (x % 2) l)

pub bytes_fit : (c : ℕ) (bs : List ℕ) → c < 2 ^ word_bits → bytes_in c bs < 2 ^ word_bits
unfolding bytes_in
bytes_fit c [] l = l
bytes_fit c (x ∷ xs) l = bytes_fit (bits_in 8 c x) xs (bits_fit 8 c x l)

-- ---- the whole
pub crc32_word : (bytes : List ℕ) → crc32 bytes < 2 ^ word_bits
unfolding crc32
crc32_word bytes = omega arith

-- the CRC of a list in two parts, from that of the first
pub crc_parts : (xs ys : List ℕ) → crc32 (xs ++ ys) ≡ ones - bytes_in (ones - crc32 xs) ys
unfolding crc32
crc_parts xs ys =
    let l : bytes_in ones xs < 2 ^ word_bits = bytes_fit ones xs (omega arith) in
    let e : bytes_in ones xs ≡ ones - (ones - bytes_in ones xs) = omega arith in
    ap (λ (r : ℕ). ones - r) (two_parts ones xs ys ∙ ap (λ (r : ℕ). bytes_in r ys) e)

-- the usual check value: the bytes of "123456789"
pub check_value : crc32 (49 ∷ 50 ∷ 51 ∷ 52 ∷ 53 ∷ 54 ∷ 55 ∷ 56 ∷ 57 ∷ []) ≡ 0xCBF43926
unfolding crc32 bytes_in bits_in bit_in mirrored sum_below bit
check_value = refl
