-- The padding of a message in the blocks that the code makes of it. Assumes nothing.
use Rattle.std.proofs.Common.{◌≡◌, ℕ, suc, ◌+◌, ◌-◌, ◌*◌, ◌/◌, ◌%◌, ◌^◌, ◌<◌, ◌≤◌, List, ◌∷◌, ◌++◌, length, take, drop, set, replicate, sym, refl, ap, ◌∙◌, append_assoc, arith, length-append}
use Rattle.std.proofs.lemmas.List.{take-replicate}
use lib.ListN.{length-replicate, replicate-append-replicate}
use lib.Seq.{set_at, take-append-add}
use Rattle.sha256.specs.Sha256.{compress, absorb, finish, zeros, length_words, padding, pad, H0, sha256}
use Rattle.sha256.proofs.Lists.{last_two}
use Rattle.sha256.proofs.Laws.{absorb_parts, absorb_block, zeros_fit, zeros_least, padding_length, padding_whole, absorb_rest}

-- the length in the last two words
pub length-put : (b : List ℕ) (n x y : ℕ) → length b ≡ 16 → x ≡ 32 * n / 2 ^ 32 % 2 ^ 32 → y ≡ 32 * n % 2 ^ 32
    → set (set b 14 x) 15 y ≡ take 14 b ++ length_words n
unfolding length_words
length-put b n x y l p q = rw (← p, ← q) (last_two b x y l)

-- the bit 1 after the words that fill no block
mark : List ℕ → List ℕ
mark r = r ++ 0x80000000 ∷ replicate (15 - length r) 0

marked : (r : List ℕ) → length r < 16 → set (r ++ replicate (16 - length r) 0) (length r) 0x80000000 ≡ mark r
unfolding mark
marked r h =
    let e : 16 - length r ≡ suc (15 - length r) = omega arith in
    rw e (set_at r 0 (replicate (15 - length r) 0) 0x80000000 (length r) refl)

mark_length : (r : List ℕ) → length r < 16 → length (mark r) ≡ 16
unfolding mark
mark_length r h =
    omega (arith, length-append r (0x80000000 ∷ replicate (15 - length r) 0), length-replicate {A = ℕ} (15 - length r) 0)

-- one closing block, where the length still fits
one : (r : List ℕ) (n : ℕ) → length r ≡ n % 16 → length r < 14 → take 14 (mark r) ++ length_words n ≡ r ++ padding n
unfolding mark padding zeros
one r n l h =
    let e : 14 ≡ length r + suc (13 - length r) = omega arith in
    let z : (29 - n % 16) % 16 ≡ 13 - length r = omega arith in
    let t : take 14 (mark r) ≡ r ++ 0x80000000 ∷ replicate (13 - length r) 0
    = ap (λ (k : ℕ). take k (mark r)) e
    ∙ take-append-add r _ (suc (13 - length r))
    ∙ rw (take-replicate {X = ℕ} (13 - length r) (15 - length r) 0 (omega arith)) in
    rw (t, z) (append_assoc r _ (length_words n))

-- two closing blocks, where it does not
two : (r : List ℕ) (n : ℕ) → length r ≡ n % 16 → 14 ≤ length r
    → mark r ++ (take 14 (replicate 16 0) ++ length_words n) ≡ r ++ padding n
unfolding mark padding zeros
two r n l h =
    let z : (29 - n % 16) % 16 ≡ 15 - length r + 14 = omega arith in
    rw (z, ← (replicate-append-replicate {A = ℕ} (15 - length r) 14 0)) (simp append_assoc)

-- what `close` gives in one block, and in two
pub close_one : (s r : List ℕ) {b w x : List ℕ} (n : ℕ) → length r ≡ n % 16 → length r < 14 → b ≡ r ++ replicate (16 - length r) 0
    → w ≡ take 14 (set b (length r) 0x80000000) ++ length_words n → x ≡ compress s w → x ≡ absorb s (r ++ padding n)
close_one s r n l h p q e =
    let m : length (r ++ padding n) ≡ 16
    = omega (arith, length-append r (padding n), padding_length n, zeros_fit n, zeros_least n) in
    e ∙ rw (q, p, marked r (omega arith), one r n l h) (sym (absorb_block s (r ++ padding n) m))

pub close_two : (s r : List ℕ) {b w x y : List ℕ} (n : ℕ) → length r ≡ n % 16 → 14 ≤ length r → b ≡ r ++ replicate (16 - length r) 0
    → y ≡ compress s (set b (length r) 0x80000000) → w ≡ take 14 (replicate 16 0) ++ length_words n → x ≡ compress y w
    → x ≡ absorb s (r ++ padding n)
unfolding length_words
close_two s r n l h p q d e =
    let m : length r < 16 = omega arith in
    e
    ∙ rw (q, p, marked r m, d, ← (two r n l h), absorb_parts s (mark r) _ 1 (mark_length r m), absorb_block s (mark r) (mark_length r m))
    (sym (absorb_block (compress s (mark r)) _ refl))

-- the length wraps at 2^64 bits, which are so many words
abbrev pub wrap : ℕ
wrap = 0x800000000000000

wraps : (y q : ℕ) → (y + 0x100000000 * q) % 2 ^ 32 ≡ y % 2 ^ 32
wraps y q = omega arith

high_wraps : (x q : ℕ) → 32 * (x + wrap * q) / 2 ^ 32 % 2 ^ 32 ≡ 32 * x / 2 ^ 32 % 2 ^ 32
high_wraps x q =
    let e : 32 * (x + wrap * q) / 2 ^ 32 ≡ 32 * x / 2 ^ 32 + 0x100000000 * q = omega arith in
    rw e (wraps (32 * x / 2 ^ 32) q)

padding_wraps : (b n : ℕ) → padding (b + n % wrap) ≡ padding (b + n)
unfolding padding zeros length_words
padding_wraps b n =
    let x : ℕ = b + n % wrap in
    let q : ℕ = n / wrap in
    let d : b + n ≡ x + wrap * q = omega arith in
    let e : (x + wrap * q) % 16 ≡ x % 16 = omega arith in
    let g : 32 * (x + wrap * q) % 2 ^ 32 ≡ 32 * x % 2 ^ 32 = omega arith in
    rw (d, e, high_wraps x q, g)

-- what `digest_on` gives
pub digest_rest : (s m : List ℕ) (b : ℕ) {t q r : List ℕ} → t ≡ absorb s m → q ≡ drop (length m / 16 * 16) m
    → r ≡ absorb t (q ++ padding (b + length m % wrap)) → r ≡ absorb s (m ++ padding (b + length m))
digest_rest s m b p q e =
    let w : length m / 16 * 16 ≡ 16 * (length m / 16) = omega arith in
    e ∙ rw (q, w, p, padding_wraps b (length m)) (absorb_rest s m (padding (b + length m)))

-- what `digest`, `keyed` and `finish` give
pub digest_all : (m : List ℕ) {s r : List ℕ} → s ≡ H0 → r ≡ absorb s (m ++ padding (0 + length m)) → r ≡ sha256 m
unfolding sha256 pad
digest_all m p q =
    let e : 0 + length m ≡ length m = omega arith in
    q ∙ rw (e, p)

pub digest_keyed : (k m : List ℕ) {h s r : List ℕ} → length k ≡ 16 → h ≡ H0 → s ≡ compress h k
    → r ≡ absorb s (m ++ padding (16 + length m)) → r ≡ sha256 (k ++ m)
unfolding sha256 pad
digest_keyed k m l p q e =
    let n : length (k ++ m) ≡ 16 + length m = omega (arith, length-append k m) in
    e
    ∙ rw (q, p, n, append_assoc k m (padding (16 + length m)), absorb_parts H0 k (m ++ padding (16 + length m)) 1 l, absorb_block H0 k l)

pub finish_whole : (s : List ℕ) (n : ℕ) {r : List ℕ} → r ≡ absorb s (padding (16 * n)) → r ≡ finish s n
unfolding finish
finish_whole s n e = e ∙ absorb_block s (padding (16 * n)) (padding_whole n)
