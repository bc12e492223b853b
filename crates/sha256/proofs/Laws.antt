-- What callers cite of SHA-256 and HMAC: the digest of whole blocks is `finish` of `absorb`, a message may be absorbed in parts, and
-- each hash value has eight words below 2^32. Assumes nothing.
use Rattle.std.proofs.Common.{◌≡◌, ℕ, zero, suc, ◌+◌, ◌*◌, ◌/◌, ◌%◌, ◌^◌, ◌<◌, ◌≤◌, List, [], ◌∷◌, ◌++◌, length, get_or, take, drop, replicate, refl, sym, ◌∙◌, append_assoc, add-zero, add-suc, arith, length-append, length-drop, take-append-drop, length-take-le, take_all, rules}
use Rattle.std.specs.List.{fold}
use Rattle.std.specs.Simd.{first_chunks}
use lib.ListN.{length-replicate}
use lib.Seq.{take-append-le, drop-append-le, drop-append-add}
use Rattle.sha256.specs.Sha256.{sum_of, compress, block, blocks, absorb, finish, zeros, length_words, padding, pad, H0, sha256}
use Rattle.sha256.specs.Hmac.{hmac}

-- the blocks of the front
blocks_front : (n : ℕ) (s m t : List ℕ) → 16 * n ≤ length m → blocks n s (m ++ t) ≡ blocks n s m
unfolding blocks block
blocks_front zero s m t h = refl
blocks_front (suc n) s m t h =
    let g : 16 ≤ length (drop (16 * n) m) = simp length-drop (omega arith) in
    rw (blocks_front n s m t (omega arith), drop-append-le (16 * n) m t (omega arith), take-append-le 16 (drop (16 * n) m) t g)

-- the blocks after k whole ones
blocks_on : (k n : ℕ) (s a b : List ℕ) → length a ≡ 16 * k → blocks (k + n) s (a ++ b) ≡ blocks n (blocks k s a) b
unfolding blocks block
blocks_on k zero s a b l = rw (add-zero k) (blocks_front k s a b (omega arith))
blocks_on k (suc n) s a b l =
    let e : 16 * (k + n) ≡ length a + 16 * n = omega arith in
    rw (add-suc k n, blocks_on k n s a b l, e, drop-append-add a b (16 * n))

-- the first block apart
blocks_first : (n : ℕ) (s m : List ℕ) → 16 ≤ length m → blocks (suc n) s m ≡ blocks n (compress s (take 16 m)) (drop 16 m)
unfolding blocks block
blocks_first n s m h =
    let e : 1 + n ≡ suc n = omega arith in
    let t : length (take 16 m) ≡ 16 = length-take-le 16 m h in
    rw (take-append-drop 16 m, take_all 16 (take 16 m) (omega arith), e) at (blocks_on 1 n s (take 16 m) (drop 16 m) t)

-- the blocks, as the code goes over them
pub fold_blocks : (n : ℕ) (s m : List ℕ) → 16 * n ≤ length m → fold compress s (first_chunks 16 n m) ≡ blocks n s m
unfolding blocks
fold_blocks zero s m h = refl
fold_blocks (suc n) s m h =
    let l : 16 * n ≤ length (drop 16 m) = omega (arith, length-drop 16 m) in
    fold_blocks n (compress s (take 16 m)) (drop 16 m) l ∙ sym (blocks_first n s m (omega arith))

-- absorbing a list in two parts, the first of k whole blocks, is absorbing it at once
pub absorb_parts : (s a b : List ℕ) (k : ℕ) → length a ≡ 16 * k → absorb s (a ++ b) ≡ absorb (absorb s a) b
unfolding absorb
absorb_parts s a b k l =
    let n : length (a ++ b) / 16 ≡ k + length b / 16 = omega (arith, length-append a b) in
    let m : length a / 16 ≡ k = omega arith in
    rw (n, m) (blocks_on k (length b / 16) s a b l)

-- absorbing one block
pub absorb_block : (s b : List ℕ) → length b ≡ 16 → absorb s b ≡ compress s b
unfolding absorb blocks block
absorb_block s b l = rw l (rw (take_all 16 b (omega arith)))

-- absorbing leaves the words that fill no block
absorb_none : (s r : List ℕ) → length r < 16 → absorb s r ≡ s
unfolding absorb blocks
absorb_none s r h =
    let e : length r / 16 ≡ 0 = omega arith in
    rw e

rest_on : (s f r t : List ℕ) (k : ℕ) → length f ≡ 16 * k → length r < 16
    → absorb (absorb s (f ++ r)) (r ++ t) ≡ absorb s (f ++ r ++ t)
rest_on s f r t k l h =
    rw (append_assoc f r t, absorb_parts s f (r ++ t) k l, absorb_parts s f r k l, absorb_none (absorb s f) r h)

pub absorb_rest : (s m t : List ℕ) → absorb (absorb s m) (drop (16 * (length m / 16)) m ++ t) ≡ absorb s (m ++ t)
absorb_rest s m t =
    let k : ℕ = length m / 16 in
    rw (take-append-drop (16 * k) m)
    at (rest_on s (take (16 * k) m) (drop (16 * k) m) t k (length-take-le (16 * k) m (omega arith)) (omega (arith, length-drop (16 * k) m)))

-- the padding makes whole blocks, with the least number of zero words
pub zeros_fit : (n : ℕ) → (n + 1 + zeros n) % 16 ≡ 14
unfolding zeros
zeros_fit n = omega arith

pub zeros_least : (n : ℕ) → zeros n < 16
unfolding zeros
zeros_least n = omega arith

pub padding_length : (n : ℕ) → length (padding n) ≡ 3 + zeros n
unfolding padding length_words
padding_length n =
    omega (arith, length-append (replicate (zeros n) 0) (length_words n), length-replicate {A = ℕ} (zeros n) 0)

pub padding_whole : (k : ℕ) → length (padding (16 * k)) ≡ 16
padding_whole k = omega (arith, padding_length (16 * k), zeros_fit (16 * k), zeros_least (16 * k))

-- the digest of k whole blocks is `finish` of the hash value after them
pub digest_whole : (m : List ℕ) (k : ℕ) → length m ≡ 16 * k → sha256 m ≡ finish (absorb H0 m) k
unfolding sha256 pad finish
digest_whole m k l =
    rw l (absorb_parts H0 m (padding (16 * k)) k l ∙ absorb_block _ _ (padding_whole k))

-- a hash value has eight words
pub compress_length : (s b : List ℕ) → length (compress s b) ≡ 8
unfolding compress sum_of
compress_length s b = refl

blocks_length : (n : ℕ) (s m : List ℕ) → length s ≡ 8 → length (blocks n s m) ≡ 8
unfolding blocks
blocks_length zero s m l = l
blocks_length (suc n) s m l = compress_length _ _

pub absorb_length : (s m : List ℕ) → length s ≡ 8 → length (absorb s m) ≡ 8
unfolding absorb
absorb_length s m l = blocks_length _ s m l

pub finish_length : (s : List ℕ) (n : ℕ) → length (finish s n) ≡ 8
unfolding finish
finish_length s n = compress_length _ _

pub sha256_length : (m : List ℕ) → length (sha256 m) ≡ 8
unfolding sha256 H0
sha256_length m = absorb_length _ _ refl

pub hmac_length : (key text : List ℕ) → length (hmac key text) ≡ 8
unfolding hmac
hmac_length key text = sha256_length _

-- each word of a hash value is below 2^32
abbrev pub Words : List ℕ → Type 0
Words s = (j : ℕ) → get_or s j 0 < 2 ^ 32

abbrev Small : List ℕ → Type 0
Small [] = Unit {0}
Small (x ∷ s) = (x < 2 ^ 32) × Small s

words_of : (s : List ℕ) → Small s → Words s
words_of [] h j = omega arith
words_of (x ∷ s) h zero = h.0
words_of (x ∷ s) h (suc j) = words_of s h.1 j

compress_small : (s b : List ℕ) → Small (compress s b)
unfolding compress sum_of
compress_small s b = search rules

pub compress_words : (s b : List ℕ) → Words (compress s b)
compress_words s b = words_of (compress s b) (compress_small s b)

blocks_words : (n : ℕ) (s m : List ℕ) → Words s → Words (blocks n s m)
unfolding blocks
blocks_words zero s m h = h
blocks_words (suc n) s m h = compress_words _ _

pub absorb_words : (s m : List ℕ) → Words s → Words (absorb s m)
unfolding absorb
absorb_words s m h = blocks_words _ s m h

pub finish_words : (s : List ℕ) (n : ℕ) → Words (finish s n)
unfolding finish
finish_words s n = compress_words _ _

H0-small : Small H0
unfolding H0
H0-small = search rules

pub sha256_words : (m : List ℕ) → Words (sha256 m)
unfolding sha256
sha256_words m = absorb_words _ _ (words_of H0 H0-small)

pub hmac_words : (key text : List ℕ) → Words (hmac key text)
unfolding hmac
hmac_words key text = sha256_words _
