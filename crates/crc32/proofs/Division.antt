-- The CRC is the remainder that IEEE 802.3 says in words, and the remainder is the only one. Assumes nothing.
use Prim.Native.Nat.{ℕ, zero, suc, ◌+◌, ◌-◌, ◌*◌, ◌/◌, ◌%◌, ◌^◌, ◌≤◌, ◌<◌}
use mathlib.Core.Path.{◌≡◌, refl, sym, ap, ap₂, subst, ◌∙◌}
use mathlib.Core.Logic.{◌⊎◌, ⊎_elim, inl, inr}
use mathlib.Core.List.{List}
use native.Mathlib.Nat.{pow-suc, mod-eq_of_lt, mul_assoc, mul-le-mul_right, add-zero, one-mul, zero-mul, mul-one, mul_right_comm, pow-succ'}
use native.Mathlib.Omega.{arith}
use lib.Bits.{bit_xor, xor_comm, xor_zero_r, xor_shr, xor_self, xor_block, xor_shifted, xor_lt}
use lib.ListN.{length}
use lib.Pow.{pow_pos, pow-add}
use Rattle.words.specs.Words.{word_bits, bit, sum_below}
use Rattle.words.specs.Bytes.{AreBytes}
use Rattle.words.proofs.Bits.{bit_zero, bit_suc, bit_le, bit_sum}
use Rattle.words.proofs.Sums.{sum_ext}
use Rattle.crc32.specs.Crc32.{polynomial, mirrored, bit_in, bits_in, bytes_in, ones, crc32, bit_at}
use Rattle.crc32.specs.Division.{generator, Congruent, itself, plus, bit_count, sent, complemented, IsTheStandards}
use Rattle.crc32.proofs.Laws.{xor_odd, xor_assoc, xor_swap, odds, bit_fits, bytes_fit}
use Rattle.crc32.proofs.Bursts.{number_of, number_in, number_bit, low_same, xor_none}

-- ---- exclusive or: moved up, and bit by bit
xor_up : (a b k : ℕ) → bit_xor a b * 2 ^ k ≡ bit_xor (a * 2 ^ k) (b * 2 ^ k)
xor_up a b k =
    sym
    (ap₂ bit_xor (sym (add-zero (a * 2 ^ k))) (sym (add-zero (b * 2 ^ k)))
    ∙ xor_block k a b 0 0 (pow_pos k) (pow_pos k)
    ∙ add-zero (bit_xor a b * 2 ^ k))

xor_bit : (a b i : ℕ) → bit (bit_xor a b) i ≡ (bit a i + bit b i) % 2
unfolding bit
xor_bit a b i = ap (λ (x : ℕ). x % 2) (xor_shr a b i) ∙ xor_odd (a / 2 ^ i) (b / 2 ^ i) ∙ omega arith

-- ---- what is kept: more on both sides, and times x^j
more : {A B : ℕ} (C : ℕ) → Congruent A B → Congruent (bit_xor A C) (bit_xor B C)
more C itself = itself
more {A} C (plus {B} k h) =
    subst (Congruent (bit_xor A C))
    (xor_assoc B C (generator * 2 ^ k) ∙ ap (bit_xor B) (xor_comm C (generator * 2 ^ k)) ∙ sym (xor_assoc B (generator * 2 ^ k) C))
    (plus k (more C h))

times : {A B : ℕ} (j : ℕ) → Congruent A B → Congruent (A * 2 ^ j) (B * 2 ^ j)
times j itself = itself
times {A} j (plus {B} k h) =
    subst (Congruent (A * 2 ^ j))
    (ap (bit_xor (B * 2 ^ j)) (ap (λ (x : ℕ). generator * x) (pow-add 2 k j) ∙ sym (mul_assoc generator (2 ^ k) (2 ^ j)))
    ∙ sym (xor_up B (generator * 2 ^ k) j))
    (plus (k + j) (times j h))

through : {A B C : ℕ} → Congruent A B → Congruent B C → Congruent A C
through h itself = h
through h (plus k g) = plus k (through h g)

-- ---- n bits as coefficients, the first that of x^(n - 1)
turned : ℕ → (ℕ → ℕ) → ℕ
turned n f = sum_below n (λ i. f (n - 1 - i) * 2 ^ i)

turned_same : (n : ℕ) (f g : ℕ → ℕ) → ((i : ℕ) → f i ≡ g i) → turned n f ≡ turned n g
unfolding turned
turned_same n f g e = sum_ext n (λ i. f (n - 1 - i) * 2 ^ i) (λ i. g (n - 1 - i) * 2 ^ i) (λ i l. ap (λ (x : ℕ). x * 2 ^ i) (e (n - 1 - i)))

-- the first apart, and the last
turned_first : (n : ℕ) (f : ℕ → ℕ) → turned (suc n) f ≡ f 0 * 2 ^ n + turned n (λ i. f (suc i))
unfolding turned sum_below
turned_first n f =
    let e : sum_below n (λ i. f (suc n - 1 - i) * 2 ^ i) ≡ sum_below n (λ i. f (suc (n - 1 - i)) * 2 ^ i) =
    sum_ext n (λ i. f (suc n - 1 - i) * 2 ^ i) (λ i. f (suc (n - 1 - i)) * 2 ^ i)
    (λ i l. ap (λ (m : ℕ). f m * 2 ^ i) {x = suc n - 1 - i} {y = suc (n - 1 - i)} (omega arith)) in
    let o : f (suc n - 1 - n) * 2 ^ n ≡ f 0 * 2 ^ n = ap (λ (m : ℕ). f m * 2 ^ n) {x = suc n - 1 - n} {y = 0} (omega arith) in
    omega arith

turned_last : (n : ℕ) (f : ℕ → ℕ) → turned (suc n) f ≡ turned n f * 2 + f n
unfolding turned sum_below
turned_last zero f = omega arith
turned_last (suc n) f =
    let e : f 0 * 2 ^ suc n ≡ f 0 * 2 ^ n * 2 = ap (λ (x : ℕ). f 0 * x) (pow-suc 2 n) ∙ sym (mul_assoc (f 0) (2 ^ n) 2) in
    omega (arith, turned_first (suc n) f, turned_last n (λ i. f (suc i)), turned_first n f)

turned_fits : (n : ℕ) (f : ℕ → ℕ) → ((i : ℕ) → f i ≤ 1) → turned n f < 2 ^ n
unfolding turned sum_below
turned_fits zero f le = omega arith
turned_fits (suc n) f le =
    omega (arith, pow-suc 2 n, turned_first n f, turned_fits n (λ i. f (suc i)) (λ i. le (suc i)), mul-le-mul_right (2 ^ n) (le 0))

turned_bits : (n x : ℕ) → turned (suc n) (bit x) ≡ x % 2 * 2 ^ n + turned n (bit (x / 2))
turned_bits n x =
    turned_first n (bit x) ∙ ap₂ (λ (a b : ℕ). a * 2 ^ n + b) (bit_zero x) (turned_same n (λ i. bit x (suc i)) (bit (x / 2)) (bit_suc x))

turned_bit : (n : ℕ) (f : ℕ → ℕ) → ((i : ℕ) → f i ≤ 1) → (i : ℕ) → i < n → bit (turned n f) i ≡ f (n - 1 - i)
unfolding turned
turned_bit n f le i l = bit_sum n (λ j. f (n - 1 - j)) (λ j. le (n - 1 - j)) i l

-- the law of `sent`: bit i as sent is the coefficient of x^(n - 1 - i)
bit_at_le : (bs : List ℕ) (i : ℕ) → bit_at bs i ≤ 1
unfolding bit_at
bit_at_le bs i = bit_le _ (i % 8)

pub sent_bit : (bs : List ℕ) (i : ℕ) → i < bit_count bs → bit (sent bs) (bit_count bs - 1 - i) ≡ bit_at bs i
unfolding sent turned
sent_bit bs i l =
    turned_bit (bit_count bs) (bit_at bs) (bit_at_le bs) (bit_count bs - 1 - i) (omega arith)
    ∙ ap (bit_at bs) {x = bit_count bs - 1 - (bit_count bs - 1 - i)} {y = i} (omega arith)

-- ---- a word the other way round
mirrored_fits : (w : ℕ) → mirrored w < 2 ^ word_bits
unfolding mirrored turned
mirrored_fits w = turned_fits 32 (bit w) (bit_le w)

mirrored_bit : (w i : ℕ) → i < 32 → bit (mirrored w) i ≡ bit w (31 - i)
unfolding mirrored turned
mirrored_bit w i l = turned_bit 32 (bit w) (bit_le w) i l

same : (a b : ℕ) → a < 2 ^ word_bits → b < 2 ^ word_bits → ((i : ℕ) → i < 32 → bit a i ≡ bit b i) → a ≡ b
same a b la lb h = sym (mod-eq_of_lt la) ∙ low_same 32 a b h ∙ mod-eq_of_lt lb

mirrored_xor : (a b : ℕ) → mirrored (bit_xor a b) ≡ bit_xor (mirrored a) (mirrored b)
mirrored_xor a b =
    same (mirrored (bit_xor a b)) (bit_xor (mirrored a) (mirrored b)) (mirrored_fits (bit_xor a b))
    (xor_lt 32 (mirrored a) (mirrored b) (mirrored_fits a) (mirrored_fits b))
    (λ i l.
    mirrored_bit (bit_xor a b) i l
    ∙ xor_bit a b (31 - i)
    ∙ ap₂ (λ (x y : ℕ). (x + y) % 2) (sym (mirrored_bit a i l)) (sym (mirrored_bit b i l))
    ∙ sym (xor_bit (mirrored a) (mirrored b) i))

mirrored_twice : (w : ℕ) → w < 2 ^ word_bits → mirrored (mirrored w) ≡ w
mirrored_twice w fits =
    same (mirrored (mirrored w)) w (mirrored_fits (mirrored w)) fits
    (λ i l.
    mirrored_bit (mirrored w) i l ∙ mirrored_bit w (31 - i) (omega arith) ∙ ap (bit w) {x = 31 - (31 - i)} {y = i} (omega arith))

mirrored_half : (c : ℕ) → c < 2 ^ word_bits → mirrored c * 2 ≡ c % 2 * 2 ^ word_bits + mirrored (c / 2)
unfolding mirrored turned bit
mirrored_half c l =
    let t : bit (c / 2) 31 ≡ 0 = omega arith in
    omega (arith, turned_bits 31 c, turned_last 31 (bit (c / 2)))

mirrored_ones : mirrored ones ≡ ones
unfolding mirrored sum_below bit
mirrored_ones = refl

mirrored_none : mirrored 0 ≡ 0
unfolding mirrored sum_below bit
mirrored_none = refl

-- ---- one bit: the register times x, with the bit at x^32. What stands at x^32 is divided out
out : (q r : ℕ) → q < 2 → Congruent (bit_xor (q * 2 ^ word_bits) r) (bit_xor r (mirrored (q * mirrored polynomial)))
out zero r l =
    subst (Congruent r) (sym (ap (bit_xor r) (ap mirrored (zero-mul (mirrored polynomial)) ∙ mirrored_none) ∙ xor_zero_r r)) itself
out (suc zero) r l =
    let H : ℕ = 2 ^ word_bits in
    subst (Congruent (bit_xor H r))
    (xor_swap H r H polynomial
    ∙ ap₂ bit_xor (xor_self H) (ap (bit_xor r) (sym (ap mirrored (one-mul (mirrored polynomial)) ∙ mirrored_twice polynomial (omega arith)))))
    (plus 0 itself)
out (suc (suc q)) r l = absurd (omega arith)

one : (c b : ℕ) → c < 2 ^ word_bits → b < 2 → Congruent (bit_xor (mirrored c * 2) (b * 2 ^ word_bits)) (mirrored (bit_in c b))
unfolding bit_in
one c b l m =
    let r : ℕ = mirrored (c / 2) in
    let H : ℕ = 2 ^ word_bits in
    let q : ℕ = (c + b) % 2 in
    let parity : (c % 2 + b) % 2 ≡ q = omega arith in
    let before : bit_xor (mirrored c * 2) (b * H) ≡ bit_xor (q * H) r =
    ap (λ (x : ℕ). bit_xor x (b * H)) (mirrored_half c l ∙ sym (xor_shifted (c % 2) word_bits r (mirrored_fits (c / 2))))
    ∙ xor_assoc (c % 2 * H) r (b * H)
    ∙ ap (bit_xor (c % 2 * H)) (xor_comm r (b * H))
    ∙ sym (xor_assoc (c % 2 * H) (b * H) r)
    ∙ ap (λ (x : ℕ). bit_xor x r) (odds (c % 2) b H (omega arith) m ∙ ap (λ (x : ℕ). x * H) parity) in
    rw (before, mirrored_xor) (out q r (omega arith))

-- ---- k bits: what was in the register is k places higher, and the k bits stand at x^32 and above
several : (k c x : ℕ) → c < 2 ^ word_bits
    → Congruent (bit_xor (mirrored c * 2 ^ k) (turned k (bit x) * 2 ^ word_bits)) (mirrored (bits_in k c x))
unfolding bits_in turned sum_below
several zero c x l = subst (λ (a : ℕ). Congruent a (mirrored c)) (sym (xor_zero_r (mirrored c * 1) ∙ mul-one (mirrored c))) itself
several (suc k) c x l =
    let H : ℕ = 2 ^ word_bits in
    let b : ℕ = x % 2 in
    let T : ℕ = turned k (bit (x / 2)) in
    let e : bit_xor (bit_xor (mirrored c * 2) (b * H) * 2 ^ k) (T * H) ≡ bit_xor (mirrored c * 2 ^ suc k) (turned (suc k) (bit x) * H) =
    ap (λ (a : ℕ). bit_xor a (T * H)) (xor_up (mirrored c * 2) (b * H) k)
    ∙ xor_assoc (mirrored c * 2 * 2 ^ k) (b * H * 2 ^ k) (T * H)
    ∙ ap₂ bit_xor (mul_assoc (mirrored c) 2 (2 ^ k) ∙ ap (λ (p : ℕ). mirrored c * p) (sym (pow-succ' 2 k)))
    (ap (λ (a : ℕ). bit_xor a (T * H)) (mul_right_comm b H (2 ^ k))
    ∙ sym (xor_up (b * 2 ^ k) T word_bits)
    ∙ ap (λ (a : ℕ). a * H) (xor_shifted b k T (turned_fits k (bit (x / 2)) (bit_le (x / 2))) ∙ sym (turned_bits k x))) in
    subst (λ (a : ℕ). Congruent a (mirrored (bits_in k (bit_in c b) (x / 2)))) e
    (through (more (T * H) (times k (one c b l (omega arith)))) (several k (bit_in c b) (x / 2) (bit_fits c b l)))

-- ---- the whole
pub is_the_standards : (bs : List ℕ) → AreBytes bs → 4 ≤ length bs → IsTheStandards bs
unfolding crc32 complemented sent turned
is_the_standards bs bytes l =
    let n : ℕ = bit_count bs in
    let H : ℕ = 2 ^ word_bits in
    let c : ℕ = bytes_in ones bs in
    let fits : c < 2 ^ word_bits = bytes_fit ones bs (omega arith) in
    let M : turned n (bit (number_of bs)) ≡ sent bs = turned_same n (bit (number_of bs)) (bit_at bs) (number_bit bs bytes) in
    let first : ones * 2 ^ n ≡ ones * 2 ^ (n - word_bits) * H =
    ap (λ (m : ℕ). ones * 2 ^ m) {x = n} {y = n - word_bits + word_bits} (omega arith)
    ∙ ap (λ (p : ℕ). ones * p) (pow-add 2 (n - word_bits) word_bits)
    ∙ sym (mul_assoc ones (2 ^ (n - word_bits)) H) in
    let e : bit_xor (mirrored ones * 2 ^ n) (turned n (bit (number_of bs)) * H) ≡ complemented bs * H =
    ap₂ (λ (a b : ℕ). bit_xor (a * 2 ^ n) (b * H)) mirrored_ones M
    ∙ xor_comm (ones * 2 ^ n) (sent bs * H)
    ∙ ap (bit_xor (sent bs * H)) first
    ∙ sym (xor_up (sent bs) (ones * 2 ^ (n - word_bits)) word_bits) in
    record {
      remainder = mirrored c;
      small = mirrored_fits c;
      divided =
          subst (λ (a : ℕ). Congruent a (mirrored c)) e (rw (number_in ones bs bytes) (several n ones (number_of bs) (omega arith)));
      sequence = ap (λ (x : ℕ). ones - x) (sym (mirrored_twice c fits));
    }

-- ---- the remainder is the only one
back : {A B : ℕ} → Congruent A B → Congruent B A
back itself = itself
back (plus {B} k h) =
    let X : ℕ = generator * 2 ^ k in
    through (subst (Congruent (bit_xor B X)) (xor_assoc B X X ∙ ap (bit_xor B) (xor_self X) ∙ xor_zero_r B) (plus k itself)) (back h)

up : (k : ℕ) → generator * 2 ^ k * 2 ≡ generator * 2 ^ suc k
up k = mul_assoc generator (2 ^ k) 2 ∙ ap (λ (p : ℕ). generator * p) (sym (pow-suc 2 k))

-- a multiple of G(x) by the coefficients of the other factor, the highest first: 0, and x times a multiple, with G(x) or without
data Multiple : ℕ → Type 0 where
  none : Multiple 0
  next : {D : ℕ} (q : ℕ) → q < 2 → Multiple D → Multiple (bit_xor (D * 2) (q * generator))

with_one : {D : ℕ} (k : ℕ) → Multiple D → Multiple (bit_xor D (generator * 2 ^ k))
with_one zero none = next 1 (omega arith) none
with_one zero (next {D} q l m) =
    subst Multiple
    (sym (xor_assoc (D * 2) (q * generator) (1 * generator) ∙ ap (bit_xor (D * 2)) (odds q 1 generator l (omega arith))))
    (next ((q + 1) % 2) (omega arith) m)
with_one (suc k) none =
    subst Multiple (xor_zero_r (generator * 2 ^ k * 2) ∙ up k) (next 0 (omega arith) (with_one {D = 0} k none))
with_one (suc k) (next {D} q l m) =
    let X : ℕ = generator * 2 ^ k in
    subst Multiple
    (ap (λ (x : ℕ). bit_xor x (q * generator)) (xor_up D X 1)
    ∙ xor_assoc (D * 2) (X * 2) (q * generator)
    ∙ ap (bit_xor (D * 2)) (xor_comm (X * 2) (q * generator) ∙ ap (bit_xor (q * generator)) (up k))
    ∙ sym (xor_assoc (D * 2) (q * generator) (generator * 2 ^ suc k)))
    (next q l (with_one {D = D} k m))

none_or_high : {D : ℕ} → Multiple D → (D ≡ 0) ⊎ (2 ^ word_bits ≤ D)
none_or_high none = inl refl
none_or_high (next {D} q l m) = go q l (none_or_high m)
  where
    go : (q : ℕ) → q < 2 → (D ≡ 0) ⊎ (2 ^ word_bits ≤ D)
        → (bit_xor (D * 2) (q * generator) ≡ 0) ⊎ (2 ^ word_bits ≤ bit_xor (D * 2) (q * generator))
    go zero l (inl z) = inl (ap (λ (x : ℕ). bit_xor (x * 2) 0) z)
    go (suc zero) l (inl z) = inr (rw z (omega arith))
    go (suc (suc q)) l (inl z) = absurd (omega arith)
    go q l (inr h) =
        let e : q * generator / 2 ^ 33 ≡ 0 = omega arith in
        inr (omega (arith, xor_shr (D * 2) (q * generator) 33, ap (bit_xor (D * 2 / 2 ^ 33)) e, xor_zero_r (D * 2 / 2 ^ 33)))

multiple : {A B : ℕ} → Congruent A B → Multiple (bit_xor A B)
multiple {A} itself = subst Multiple (sym (xor_self A)) none
multiple {A} (plus {B} k h) = subst Multiple (xor_assoc A B (generator * 2 ^ k)) (with_one k (multiple h))

pub only_one : (A r s : ℕ) → r < 2 ^ word_bits → s < 2 ^ word_bits → Congruent A r → Congruent A s → r ≡ s
only_one A r s lr ls h g =
    xor_none r s
    (⊎_elim (λ z. z) (λ (m : 2 ^ word_bits ≤ bit_xor r s). absurd (omega (arith, xor_lt word_bits r s lr ls)))
    (none_or_high (multiple (through (back h) g))))
