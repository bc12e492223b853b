-- Two lists of bytes that end in their CRC, and differ within 32 consecutive bits at most, are the same. Assumes nothing.
use Prim.Native.Nat.{ℕ, zero, suc, ◌+◌, ◌-◌, ◌*◌, ◌/◌, ◌%◌, ◌^◌, ◌≤◌, ◌<◌}
use mathlib.Core.Path.{◌≡◌, refl, sym, ap, ap₂, ◌∙◌}
use mathlib.Core.Logic.{◌⊎◌, ⊎_elim, inl, inr}
use mathlib.Core.List.{List, [], ◌∷◌}
use native.Mathlib.Nat.{pow-suc, mod-one, mod-eq_of_lt, lt_of_le_of_lt, add_comm, add-zero, zero-mul, zero-div}
use native.Mathlib.Omega.{arith}
use lib.Arith.{mod-mul, digits_div}
use lib.Bits.{bit_xor, xor_zero_r, xor_self, xor_shr, xor_mod, xor_lt, block_half, block_odd}
use lib.ListN.{length, get_or, take, drop, take-append-drop, length-drop, drop_of_length-le}
use lib.Pow.{pow_pos, pow-add, shr-shr, shr_le, split}
use lib.Seq.{take_all, get_or-drop}
use Rattle.words.specs.Words.{word_bits, bit}
use Rattle.words.specs.Bytes.{AreBytes, word_at}
use Rattle.words.proofs.Bits.{bit_zero, bit_suc, bit_of_zero}
use Rattle.words.proofs.Cases.{lt_or_ge}
use Rattle.crc32.specs.Crc32.{polynomial, mirrored, bit_in, bits_in, bytes_in, ones, crc32, bit_at}
use Rattle.crc32.proofs.Laws.{xor_half, xor_odd, xor_assoc, digits, linear, absorb, zeros, shift, parts, byte_first}
use Rattle.crc32.proofs.Laws.{two_parts, next_word, mirrored_is, bit_fits, bytes_fit}

-- ---- exclusive or: of equal numbers alone it is 0, and of a word and its complement it is ones
pub xor_none : (a b : ℕ) → bit_xor a b ≡ 0 → a ≡ b
xor_none a b e =
    sym (xor_zero_r a)
    ∙ ap (bit_xor a) (sym (xor_self b))
    ∙ sym (xor_assoc a b b)
    ∙ ap (λ (x : ℕ). bit_xor x b) e

complement : (k r : ℕ) → r < 2 ^ k → bit_xor r (2 ^ k - 1 - r) ≡ 2 ^ k - 1
complement zero r l = let e : r ≡ 0 = omega arith in ap (λ (x : ℕ). bit_xor x (2 ^ 0 - 1 - x)) e
complement (suc k) r l =
    let p : 2 ^ suc k ≡ 2 ^ k * 2 = pow-suc 2 k in
    let h : (2 ^ suc k - 1 - r) / 2 ≡ 2 ^ k - 1 - r / 2 = omega arith in
    let q : 2 ^ k - 1 ≡ (2 ^ suc k - 1) / 2 = omega arith in
    let s : r + (2 ^ suc k - 1 - r) ≡ 2 ^ suc k - 1 = omega arith in
    digits
    (xor_half r (2 ^ suc k - 1 - r) ∙ ap (bit_xor (r / 2)) h ∙ complement k (r / 2) (omega arith) ∙ q)
    (xor_odd r (2 ^ suc k - 1 - r) ∙ ap (λ (x : ℕ). x % 2) s)

-- ---- a word that zeros bring to 0 was 0: what leaves the register leaves its trace in the highest bit
none_one : (c : ℕ) → c < 2 ^ word_bits → bit_in c 0 ≡ 0 → c ≡ 0
unfolding bit_in
none_one c l e =
    go ((c + 0) % 2) (omega arith)
    (xor_none (c / 2) ((c + 0) % 2 * mirrored polynomial) e ∙ ap (λ (p : ℕ). (c + 0) % 2 * p) mirrored_is)
  where
    go : (b : ℕ) → b ≡ c % 2 → c / 2 ≡ b * 0xEDB88320 → c ≡ 0
    go zero o h = omega arith
    go (suc zero) o h = absurd (omega arith)
    go (suc (suc b)) o h = absurd (omega arith)

none : (m c : ℕ) → c < 2 ^ word_bits → bits_in m c 0 ≡ 0 → c ≡ 0
unfolding bits_in
none zero c l e = e
none (suc m) c l e = none_one c l (none m (bit_in c 0) (bit_fits c 0 l) e)

-- ---- a list of bytes as a number, the first byte the lowest
pub number_of : List ℕ → ℕ
number_of [] = 0
number_of (x ∷ xs) = number_of xs * 256 + x

-- its register, its bound and its bits
pub number_in : (c : ℕ) (bs : List ℕ) → AreBytes bs → bytes_in c bs ≡ bits_in (8 * length bs) c (number_of bs)
unfolding number_of bytes_in bits_in
number_in c [] bytes = refl
number_in c (x ∷ xs) bytes =
    number_in (bits_in 8 c x) xs (λ k. bytes (suc k))
    ∙ sym (byte_first (8 * length xs) c x (number_of xs) (bytes 0))
    ∙ ap (λ (m : ℕ). bits_in m c (number_of xs * 256 + x)) {x = 8 + 8 * length xs} {y = 8 * suc (length xs)} (omega arith)

number_fits : (bs : List ℕ) → AreBytes bs → number_of bs < 2 ^ (8 * length bs)
unfolding number_of
number_fits [] bytes = omega arith
number_fits (x ∷ xs) bytes =
    let e : 2 ^ (8 * suc (length xs)) ≡ 256 * 2 ^ (8 * length xs) =
    ap (λ (m : ℕ). 2 ^ m) {x = 8 * suc (length xs)} {y = 8 + 8 * length xs} (omega arith) ∙ pow-add 2 8 (8 * length xs) in
    omega (arith, number_fits xs (λ k. bytes (suc k)), bytes 0)

bit_low : (j i x y : ℕ) → i < j → bit (y * 2 ^ j + x) i ≡ bit x i
bit_low zero i x y l = absurd (omega arith)
bit_low (suc j) zero x y l = bit_zero (y * 2 ^ suc j + x) ∙ block_odd y j x ∙ sym (bit_zero x)
bit_low (suc j) (suc i) x y l =
    bit_suc (y * 2 ^ suc j + x) i
    ∙ ap (λ (w : ℕ). bit w i) (block_half y j x)
    ∙ bit_low j i (x / 2) y (omega arith)
    ∙ sym (bit_suc x i)

bit_high : (w m i : ℕ) → bit (w / 2 ^ m) i ≡ bit w (m + i)
unfolding bit
bit_high w m i = ap (λ (x : ℕ). x % 2) (shr-shr w m i)

pub number_bit : (bs : List ℕ) → AreBytes bs → (i : ℕ) → bit (number_of bs) i ≡ bit_at bs i
unfolding number_of bit_at
number_bit [] bytes i = bit_of_zero i ∙ sym (bit_of_zero (i % 8))
number_bit (x ∷ xs) bytes i =
    let N : ℕ = number_of xs in
    ⊎_elim
    (λ (l : i < 8).
    let q : 0 ≡ i / 8 = omega arith in
    let r : i ≡ i % 8 = omega arith in
    bit_low 8 i x N l ∙ ap₂ (λ (u v : ℕ). bit (get_or (x ∷ xs) u 0) v) q r)
    (λ (l : 8 ≤ i).
    let e : i ≡ 8 + (i - 8) = omega arith in
    let q : suc ((i - 8) / 8) ≡ i / 8 = omega arith in
    let r : (i - 8) % 8 ≡ i % 8 = omega arith in
    ap (bit (N * 256 + x)) e
    ∙ sym (bit_high (N * 256 + x) 8 (i - 8))
    ∙ ap (λ (w : ℕ). bit w (i - 8)) (digits_div N (bytes 0))
    ∙ number_bit xs (λ k. bytes (suc k)) (i - 8)
    ∙ ap₂ (λ (u v : ℕ). bit (get_or (x ∷ xs) u 0) v) q r)
    (lt_or_ge i 8)

number_same : (A B : List ℕ) → AreBytes A → AreBytes B → length A ≡ length B → number_of A ≡ number_of B → A ≡ B
unfolding number_of
number_same [] [] p q n e = refl
number_same [] (y ∷ ys) p q n e = absurd (omega arith)
number_same (x ∷ xs) [] p q n e = absurd (omega arith)
number_same (x ∷ xs) (y ∷ ys) p q n e =
    let h : number_of xs ≡ number_of ys = omega (arith, p 0, q 0) in
    let l : x ≡ y = omega (arith, p 0, q 0) in
    ap₂ ◌∷◌ l (number_same xs ys (λ k. p (suc k)) (λ k. q (suc k)) (omega arith) h)

-- ---- numbers whose low bits agree, and whose high ones
pub low_same : (k a b : ℕ) → ((i : ℕ) → i < k → bit a i ≡ bit b i) → a % 2 ^ k ≡ b % 2 ^ k
low_same zero a b h = mod-one a ∙ sym (mod-one b)
low_same (suc k) a b h =
    first a
    ∙ ap₂ (λ (u v : ℕ). u * 2 + v) (low_same k (a / 2) (b / 2) (λ i l. sym (bit_suc a i) ∙ h (suc i) (omega arith) ∙ bit_suc b i))
    (sym (bit_zero a) ∙ h 0 (omega arith) ∙ bit_zero b)
    ∙ sym (first b)
  where
    first : (x : ℕ) → x % 2 ^ suc k ≡ (x / 2 % 2 ^ k) * 2 + x % 2
    first x = ap (λ (m : ℕ). x % m) (pow-suc 2 k) ∙ mod-mul x (pow_pos k) (omega arith)

high_same : (n m a b : ℕ) → a < 2 ^ n → b < 2 ^ n → ((i : ℕ) → bit a (m + i) ≡ bit b (m + i)) → a / 2 ^ m ≡ b / 2 ^ m
high_same n m a b la lb h =
    sym (mod-eq_of_lt (lt_of_le_of_lt (shr_le a m) la))
    ∙ low_same n (a / 2 ^ m) (b / 2 ^ m) (λ i l. bit_high a m i ∙ h i ∙ sym (bit_high b m i))
    ∙ mod-eq_of_lt (lt_of_le_of_lt (shr_le b m) lb)

-- ---- the register of a list that ends in its CRC
module _ (A : List ℕ) (n : ℕ) (bytes : AreBytes A) (size : length A ≡ n + 4) (right : crc32 (take n A) ≡ word_at (drop n A) 0) where
  whole : bytes_in ones A ≡ bits_in 32 ones 0
  unfolding crc32 bytes_in word_at
  whole =
      let r : ℕ = bytes_in ones (take n A) in
      let E : List ℕ = drop n A in
      let l : r < 2 ^ word_bits = bytes_fit ones (take n A) (omega arith) in
      let m : length E ≡ 4 = omega (arith, length-drop n A) in
      ap (bytes_in ones) (sym (take-append-drop n A))
      ∙ two_parts ones (take n A) E
      ∙ next_word r E E 0 (word_at E 0) (λ k. rw get_or-drop (bytes (n + k))) (omega arith) (sym (take_all 4 E (omega arith))) (omega arith)
      ∙ ap (bytes_in (bits_in 32 r (word_at E 0))) (drop_of_length-le E {i = 4} (omega arith))
      ∙ ap (bits_in 32 r) (sym right)
      ∙ absorb 32 r (ones - r) (omega arith)
      ∙ ap (λ (x : ℕ). bits_in 32 x 0) (complement 32 r l)

-- ---- a number whose bits lie in 32 consecutive places, and that leaves nothing in the register, is 0
alone : (N k D : ℕ) → D % 2 ^ k ≡ 0 → D / 2 ^ k < 2 ^ word_bits → bits_in N D 0 ≡ 0 → D ≡ 0
alone N k D z l e =
    let E : ℕ = D / 2 ^ k in
    let s : E * 2 ^ k ≡ D = sym (add-zero (E * 2 ^ k)) ∙ ap (λ (x : ℕ). E * 2 ^ k + x) (sym z) ∙ split D k in
    let t : bits_in N E 0 ≡ 0 =
    sym (shift k N E)
    ∙ ap₂ (λ (m x : ℕ). bits_in m x 0) (add_comm k N) s
    ∙ parts N k D 0
    ∙ ap₂ (bits_in k) e (zero-div (2 ^ N))
    ∙ zeros k in
    sym s ∙ ap (λ (x : ℕ). x * 2 ^ k) (none N E l t) ∙ zero-mul (2 ^ k)

-- ---- two lists whose checks are right, and that agree in every bit outside 32 consecutive places
pub burst : (A B : List ℕ) (n k : ℕ) → AreBytes A → AreBytes B → length A ≡ n + 4 → length B ≡ n + 4
    → crc32 (take n A) ≡ word_at (drop n A) 0
    → crc32 (take n B) ≡ word_at (drop n B) 0
    → ((i : ℕ) → (i < k) ⊎ (k + 32 ≤ i) → bit_at B i ≡ bit_at A i)
    → A ≡ B
burst A B n k p q la lb ra rb same =
    let N : ℕ = 8 * (n + 4) in
    let a : ℕ = number_of A in
    let b : ℕ = number_of B in
    let fa : a < 2 ^ N = rw la at (number_fits A p) in
    let fb : b < 2 ^ N = rw lb at (number_fits B q) in
    let agree : (i : ℕ) → (i < k) ⊎ (k + 32 ≤ i) → bit a i ≡ bit b i = λ i o. number_bit A p i ∙ sym (same i o) ∙ sym (number_bit B q i) in
    let low : bit_xor a b % 2 ^ k ≡ 0 =
    xor_mod a b k ∙ ap (λ (x : ℕ). bit_xor x (b % 2 ^ k)) (low_same k a b (λ i l. agree i (inl l))) ∙ xor_self (b % 2 ^ k) in
    let above : a / 2 ^ (k + 32) ≡ b / 2 ^ (k + 32) =
    high_same N (k + 32) a b fa fb (λ i. agree (k + 32 + i) (inr (omega arith))) in
    let high : bit_xor a b / 2 ^ k / 2 ^ 32 ≡ 0 =
    shr-shr (bit_xor a b) k 32
    ∙ xor_shr a b (k + 32)
    ∙ ap (λ (x : ℕ). bit_xor x (b / 2 ^ (k + 32))) above
    ∙ xor_self (b / 2 ^ (k + 32)) in
    let e : bits_in N (bit_xor a b) 0 ≡ 0 =
    sym (absorb N 0 (bit_xor a b) (xor_lt N a b fa fb))
    ∙ linear N ones ones a b
    ∙ ap₂ bit_xor (sym (rw la at (number_in ones A p)) ∙ whole A n p la ra) (sym (rw lb at (number_in ones B q)) ∙ whole B n q lb rb)
    ∙ xor_self (bits_in 32 ones 0) in
    number_same A B p q (la ∙ sym lb) (xor_none a b (alone N k (bit_xor a b) low (omega arith) e))
