-- SHA-256 as FIPS 180-4 says it, on 32-bit words as numbers, in its order and letters and with its section numbers. Assumes nothing.
use Rattle.std.specs.Prelude.{ℕ, zero, suc, ◌+◌, ◌-◌, ◌*◌, ◌/◌, ◌%◌, ◌^◌, List, [], ◌∷◌, ◌++◌, length, take, drop, replicate, bit_and, bit_or, bit_xor, slice_index, slice_index_or}
use Rattle.sha256.specs.declared.rounds.Vars.{Vars}

infixl 60 ◌⊞◌
infixl 65 ◌⊕◌
-- 2.2.2: bitwise exclusive or
abbrev pub ◌⊕◌ : ℕ → ℕ → ℕ
x ⊕ y = bit_xor x y

-- 2.2.2: the complement of a word
abbrev pub not32 : ℕ → ℕ
not32 x = (2 ^ 32 - 1) - x

-- 3.2, 2: addition modulo 2^32
abbrev pub ◌⊞◌ : ℕ → ℕ → ℕ
x ⊞ y = (x + y) % 2 ^ 32

-- 3.2, 3: the right shift x >> n
abbrev pub SHR : ℕ → ℕ → ℕ
SHR n x = x / 2 ^ n

-- 3.2, 4: the rotation right, (x >> n) or (x << 32 - n)
abbrev pub ROTR : ℕ → ℕ → ℕ
ROTR n x = bit_or (x / 2 ^ n) ((x * 2 ^ (32 - n)) % 2 ^ 32)

-- 4.1.2, (4.2)
abbrev pub Ch : ℕ → ℕ → ℕ → ℕ
Ch x y z = bit_and x y ⊕ bit_and (not32 x) z

-- 4.1.2, (4.3)
abbrev pub Maj : ℕ → ℕ → ℕ → ℕ
Maj x y z = bit_and x y ⊕ bit_and x z ⊕ bit_and y z

-- 4.1.2, (4.4)
abbrev pub Σ0 : ℕ → ℕ
Σ0 x = ROTR 2 x ⊕ ROTR 13 x ⊕ ROTR 22 x

-- 4.1.2, (4.5)
abbrev pub Σ1 : ℕ → ℕ
Σ1 x = ROTR 6 x ⊕ ROTR 11 x ⊕ ROTR 25 x

-- 4.1.2, (4.6)
abbrev pub σ0 : ℕ → ℕ
σ0 x = ROTR 7 x ⊕ ROTR 18 x ⊕ SHR 3 x

-- 4.1.2, (4.7)
abbrev pub σ1 : ℕ → ℕ
σ1 x = ROTR 17 x ⊕ ROTR 19 x ⊕ SHR 10 x

-- 4.2.2: the constants of the 64 rounds
unfoldable pub K : List ℕ
K =
    0x428a2f98 ∷ 0x71374491 ∷ 0xb5c0fbcf ∷ 0xe9b5dba5 ∷ 0x3956c25b ∷ 0x59f111f1 ∷ 0x923f82a4 ∷ 0xab1c5ed5 ∷
    0xd807aa98 ∷ 0x12835b01 ∷ 0x243185be ∷ 0x550c7dc3 ∷ 0x72be5d74 ∷ 0x80deb1fe ∷ 0x9bdc06a7 ∷ 0xc19bf174 ∷
    0xe49b69c1 ∷ 0xefbe4786 ∷ 0x0fc19dc6 ∷ 0x240ca1cc ∷ 0x2de92c6f ∷ 0x4a7484aa ∷ 0x5cb0a9dc ∷ 0x76f988da ∷
    0x983e5152 ∷ 0xa831c66d ∷ 0xb00327c8 ∷ 0xbf597fc7 ∷ 0xc6e00bf3 ∷ 0xd5a79147 ∷ 0x06ca6351 ∷ 0x14292967 ∷
    0x27b70a85 ∷ 0x2e1b2138 ∷ 0x4d2c6dfc ∷ 0x53380d13 ∷ 0x650a7354 ∷ 0x766a0abb ∷ 0x81c2c92e ∷ 0x92722c85 ∷
    0xa2bfe8a1 ∷ 0xa81a664b ∷ 0xc24b8b70 ∷ 0xc76c51a3 ∷ 0xd192e819 ∷ 0xd6990624 ∷ 0xf40e3585 ∷ 0x106aa070 ∷
    0x19a4c116 ∷ 0x1e376c08 ∷ 0x2748774c ∷ 0x34b0bcb5 ∷ 0x391c0cb3 ∷ 0x4ed8aa4a ∷ 0x5b9cca4f ∷ 0x682e6ff3 ∷
    0x748f82ee ∷ 0x78a5636f ∷ 0x84c87814 ∷ 0x8cc70208 ∷ 0x90befffa ∷ 0xa4506ceb ∷ 0xbef9a3f7 ∷ 0xc67178f2 ∷ []

-- 5.1.1: the zero words between, for n words of message: the least number z with n + 1 + z = 14 modulo 16, so that k is 31 + 32 z
unfoldable pub zeros : ℕ → ℕ
zeros n = (29 - n % 16) % 16

-- 5.1.1: the length in bits, as 64 bits, of n words. The standard's messages have fewer than 2^64 bits; here a longer one wraps.
unfoldable pub length_words : ℕ → List ℕ
length_words n = 32 * n / 2 ^ 32 % 2 ^ 32 ∷ 32 * n % 2 ^ 32 ∷ []

-- 5.1.1: what is appended to a message of n words: the bit 1 and 31 bits 0, the zero words, the length
unfoldable pub padding : ℕ → List ℕ
padding n = 0x80000000 ∷ replicate (zeros n) 0 ++ length_words n

-- 5.1.1: the padded message
unfoldable pub pad : List ℕ → List ℕ
pad m = m ++ padding (length m)

-- 5.2.1: the message block M(i + 1)
unfoldable pub block : ℕ → List ℕ → List ℕ
block i m = take 16 (drop (16 * i) m)

-- 5.3.3: the initial hash value H(0)
unfoldable pub H0 : List ℕ
H0 =
    0x6a09e667 ∷ 0xbb67ae85 ∷ 0x3c6ef372 ∷ 0xa54ff53a ∷ 0x510e527f ∷ 0x9b05688c ∷ 0x1f83d9ab ∷ 0x5be0cd19 ∷ []

-- 6.2.2, step 1: the word of number t of the schedule, for t from 16 on, after the t words W
unfoldable pub next_word : List ℕ → ℕ
next_word W =
    σ1 (slice_index W (length W - 2)) ⊞ slice_index_or W (length W - 7) 0 ⊞ σ0 (slice_index W (length W - 15)) ⊞ slice_index_or W (length W - 16) 0

-- 6.2.2, step 1: the block M and the n words after it
unfoldable pub words : ℕ → List ℕ → List ℕ
words zero M = M
words (suc n) M = words n M ++ next_word (words n M) ∷ []

-- 6.2.2, step 1: the 64 words of the schedule
unfoldable pub schedule : List ℕ → List ℕ
schedule M = words 48 M

-- 6.2.2, step 2: the working variables begin with the hash value
abbrev pub vars_of : List ℕ → Vars
vars_of H =
    record {
      a = slice_index H 0;
      b = slice_index H 1;
      c = slice_index H 2;
      d = slice_index H 3;
      e = slice_index H 4;
      f = slice_index H 5;
      g = slice_index H 6;
      h = slice_index H 7;
    }

-- 6.2.2, step 3: T1, with the round's constant and schedule word
unfoldable pub T1 : Vars → ℕ → ℕ → ℕ
T1 v k w = v.h ⊞ Σ1 v.e ⊞ Ch v.e v.f v.g ⊞ k ⊞ w

-- 6.2.2, step 3: T2
abbrev pub T2 : Vars → ℕ
T2 v = Σ0 v.a ⊞ Maj v.a v.b v.c

-- 6.2.2, step 3: the variables after a round, from T1 and T2
unfoldable pub moved : Vars → ℕ → ℕ → Vars
moved v t1 t2 =
    record { a = t1 ⊞ t2; b = v.a; c = v.b; d = v.c; e = v.d ⊞ t1; f = v.e; g = v.f; h = v.g }

-- 6.2.2, step 3: one round
unfoldable pub round : Vars → ℕ → ℕ → Vars
round v k w = moved v (T1 v k w) (T2 v)

-- 6.2.2, step 3: the first n rounds, with the constants k and the schedule W
unfoldable pub rounds : ℕ → List ℕ → List ℕ → Vars → Vars
rounds zero k W v = v
rounds (suc t) k W v = round (rounds t k W v) (slice_index k t) (slice_index W t)

-- 6.2.2, step 4: the next hash value
unfoldable pub sum_of : List ℕ → Vars → List ℕ
sum_of H v =
    (slice_index_or H 0 0 ⊞ v.a) ∷ (slice_index_or H 1 0 ⊞ v.b) ∷ (slice_index_or H 2 0 ⊞ v.c) ∷ (slice_index_or H 3 0 ⊞ v.d) ∷
    (slice_index_or H 4 0 ⊞ v.e) ∷ (slice_index_or H 5 0 ⊞ v.f) ∷ (slice_index_or H 6 0 ⊞ v.g) ∷ (slice_index_or H 7 0 ⊞ v.h) ∷ []

-- 6.2.2: the hash value after the block M
unfoldable pub compress : List ℕ → List ℕ → List ℕ
compress H M = sum_of H (rounds 64 K (schedule M) (vars_of H))

-- 6.2.2: the hash value after the first n blocks of m
unfoldable pub blocks : ℕ → List ℕ → List ℕ → List ℕ
blocks zero H m = H
blocks (suc i) H m = compress (blocks i H m) (block i m)

-- 6.2.2: the hash value after each whole block of m
unfoldable pub absorb : List ℕ → List ℕ → List ℕ
absorb H m = blocks (length m / 16) H m

-- 6.2.2: the hash value after the closing block of a message of n whole blocks
unfoldable pub finish : List ℕ → ℕ → List ℕ
finish H n = compress H (padding (16 * n))

-- 6.2: the digest of a message of whole words
unfoldable pub sha256 : List ℕ → List ℕ
sha256 m = absorb H0 (pad m)
