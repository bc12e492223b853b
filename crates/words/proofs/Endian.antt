-- Words as bytes and back. Assumes nothing.
use Prim.Native.Nat.{ℕ, zero, suc, ◌+◌, ◌*◌, ◌/◌, ◌%◌, ◌^◌, ◌≤◌, ◌<◌}
use mathlib.Core.Path.{◌≡◌, refl, sym, ap, ap₂, ◌∙◌}
use mathlib.Core.List.{List, [], ◌∷◌, ◌++◌, append_assoc, append-nil}
use native.Mathlib.Omega.{arith}
use lib.ListN.{length, get_or, take, drop, length-drop, get_or-append}
use lib.Pow.{shr-shr}
use lib.Seq.{get_or-append-add, get_or-drop, take-add}
use Rattle.words.specs.Words.{list_below}
use Rattle.words.specs.Bytes.{AreBytes, bytes_of, little_endian, word_at}

-- ---- lengths, and a list in two parts
pub length-little_endian : (ws : List ℕ) → length (little_endian ws) ≡ 4 * length ws
unfolding little_endian bytes_of
length-little_endian [] = refl
length-little_endian (w ∷ ws) = omega (arith, length-little_endian ws)

pub little_endian_append : (us vs : List ℕ) → little_endian (us ++ vs) ≡ little_endian us ++ little_endian vs
unfolding little_endian
little_endian_append [] vs = refl
little_endian_append (u ∷ us) vs = ap (λ (x : List ℕ). bytes_of u ++ x) (little_endian_append us vs) ∙ sym (append_assoc (bytes_of u) (little_endian us) (little_endian vs))

-- ---- word k of a list in two parts
at_past : (xs ys : List ℕ) {n j : ℕ} (i : ℕ) → length xs ≡ n → j ≡ n + i → get_or (xs ++ ys) j 0 ≡ get_or ys i 0
at_past xs ys i e p = ap (λ (x : ℕ). get_or (xs ++ ys) x 0) (p ∙ ap (λ (x : ℕ). x + i) (sym e)) ∙ get_or-append-add xs ys i 0

word_of : {a b c d a' b' c' d' : ℕ} → a ≡ a' → b ≡ b' → c ≡ c' → d ≡ d'
    → a + 2 ^ 8 * b + 2 ^ 16 * c + 2 ^ 24 * d ≡ a' + 2 ^ 8 * b' + 2 ^ 16 * c' + 2 ^ 24 * d'
word_of p q r s = omega arith

module _ (xs ys : List ℕ) where
  pub word_past : (n k : ℕ) → length xs ≡ 4 * n → word_at (xs ++ ys) (n + k) ≡ word_at ys k
  unfolding word_at
  word_past n k e =
      word_of
      (at_past xs ys (4 * k) e (omega arith)) (at_past xs ys (4 * k + 1) e (omega arith)) (at_past xs ys (4 * k + 2) e (omega arith))
      (at_past xs ys (4 * k + 3) e (omega arith))

  pub word_within : (k : ℕ) → 4 * k + 4 ≤ length xs → word_at (xs ++ ys) k ≡ word_at xs k
  unfolding word_at
  word_within k l =
      word_of
      (get_or-append xs ys 0 (4 * k) (omega arith)) (get_or-append xs ys 0 (4 * k + 1) (omega arith))
      (get_or-append xs ys 0 (4 * k + 2) (omega arith)) (get_or-append xs ys 0 (4 * k + 3) (omega arith))

-- and of one whose first words are left out
pub word_drop : (B : List ℕ) (n k : ℕ) → word_at (drop (4 * n) B) k ≡ word_at B (n + k)
unfolding word_at
word_drop B n k = word_of (at (4 * k) (omega arith)) (at (4 * k + 1) (omega arith)) (at (4 * k + 2) (omega arith)) (at (4 * k + 3) (omega arith))
  where
    at : {j : ℕ} (i : ℕ) → 4 * n + i ≡ j → get_or (drop (4 * n) B) i 0 ≡ get_or B j 0
    at i e = get_or-drop (4 * n) B i 0 ∙ ap (λ (x : ℕ). get_or B x 0) e

-- ---- a word's bytes are the word
length_word : (w : ℕ) → length (bytes_of w) ≡ 4
unfolding bytes_of
length_word w = refl

digits : (w r a s b t c u d : ℕ) → r + 256 * a ≡ w → s + 256 * b ≡ a → t + 256 * c ≡ b → u + 256 * d ≡ c → r < 256 → s < 256 → t < 256 → u < 256
    → r + 2 ^ 8 * s + 2 ^ 16 * t + 2 ^ 24 * u ≡ w % 2 ^ 32
digits w r a s b t c u d p q v x lr ls lt lu =
    let e : w ≡ r + 256 * s + 65536 * t + 16777216 * u + 4294967296 * d = omega arith in
    rw e (sym (small (r + 256 * s + 65536 * t + 16777216 * u) d (omega arith)))
  where
    small : (x d : ℕ) → x < 4294967296 → (x + 4294967296 * d) % 4294967296 ≡ x
    small x d l = omega arith

word_of_bytes : (w : ℕ) → word_at (bytes_of w) 0 ≡ w % 2 ^ 32
unfolding word_at bytes_of
word_of_bytes w =
    let b : w / 256 / 256 ≡ w / 65536 = shr-shr w 8 8 in
    let c : w / 65536 / 256 ≡ w / 16777216 = shr-shr w 16 8 in
    digits w (w % 256) (w / 256) (w / 256 % 256) (w / 65536) (w / 65536 % 256) (w / 16777216) (w / 16777216 % 256) (w / 16777216 / 256)
    (omega arith) (rw (sym b) (omega arith)) (rw (sym c) (omega arith)) (omega arith) (omega arith) (omega arith) (omega arith) (omega arith)

pub word_at_lem : (ws : List ℕ) (k : ℕ) → k < length ws → word_at (little_endian ws) k ≡ get_or ws k 0 % 2 ^ 32
unfolding little_endian
word_at_lem [] k l = absurd (omega arith)
word_at_lem (w ∷ ws) zero l = word_within (bytes_of w) (little_endian ws) 0 (omega (arith, length_word w)) ∙ word_of_bytes w
word_at_lem (w ∷ ws) (suc k) l =
    ap (word_at (bytes_of w ++ little_endian ws)) {x = suc k} {y = 1 + k} (omega arith)
    ∙ word_past (bytes_of w) (little_endian ws) 1 k (length_word w)
    ∙ word_at_lem ws k (omega arith)

-- ---- and bytes are those of their words
four : (a b c d : ℕ) → a < 256 → b < 256 → c < 256 → d < 256
    → bytes_of (a + 2 ^ 8 * b + 2 ^ 16 * c + 2 ^ 24 * d) ≡ a ∷ b ∷ c ∷ d ∷ []
unfolding bytes_of
four a b c d la lb lc ld =
    let w : ℕ = a + 2 ^ 8 * b + 2 ^ 16 * c + 2 ^ 24 * d in
    let p : w % 256 ≡ a = omega arith in
    let q' : w / 256 ≡ b + 256 * (c + 256 * d) = omega arith in
    let r' : w / 65536 ≡ c + 256 * d = omega arith in
    let s' : w / 16777216 ≡ d = omega arith in
    let q : w / 256 % 256 ≡ b = rw q' (omega arith) in
    let r : w / 65536 % 256 ≡ c = rw r' (omega arith) in
    let s : w / 16777216 % 256 ≡ d = rw s' (omega arith) in
    cc

first_four : (B : List ℕ) → 4 ≤ length B → get_or B 0 0 ∷ get_or B 1 0 ∷ get_or B 2 0 ∷ get_or B 3 0 ∷ [] ≡ take 4 B
first_four (a ∷ b ∷ c ∷ d ∷ B) l = refl
first_four (a ∷ b ∷ c ∷ []) l = absurd (omega arith)
first_four (a ∷ b ∷ []) l = absurd (omega arith)
first_four (a ∷ []) l = absurd (omega arith)
first_four [] l = absurd (omega arith)

bytes_of_word : (B : List ℕ) (n : ℕ) → AreBytes B → 4 * n + 4 ≤ length B → bytes_of (word_at B n) ≡ take 4 (drop (4 * n) B)
unfolding word_at
bytes_of_word B n small l =
    four (get_or B (4 * n) 0) (get_or B (4 * n + 1) 0) (get_or B (4 * n + 2) 0) (get_or B (4 * n + 3) 0)
    (small (4 * n)) (small (4 * n + 1)) (small (4 * n + 2)) (small (4 * n + 3))
    ∙ at
    ∙ first_four (drop (4 * n) B) (omega (arith, length-drop (4 * n) B))
  where
    word : (i : ℕ) → get_or B (4 * n + i) 0 ≡ get_or (drop (4 * n) B) i 0
    word i = sym (get_or-drop (4 * n) B i 0)

    at : get_or B (4 * n) 0 ∷ get_or B (4 * n + 1) 0 ∷ get_or B (4 * n + 2) 0 ∷ get_or B (4 * n + 3) 0 ∷ []
        ≡ get_or (drop (4 * n) B) 0 0 ∷ get_or (drop (4 * n) B) 1 0 ∷ get_or (drop (4 * n) B) 2 0 ∷ get_or (drop (4 * n) B) 3 0 ∷ []
    at =
        let zeroth : get_or B (4 * n) 0 ≡ get_or (drop (4 * n) B) 0 0 = ap (λ (x : ℕ). get_or B x 0) {x = 4 * n} {y = 4 * n + 0} (omega arith) ∙ word 0 in
        cc (word 1, word 2, word 3)

pub bytes_back : (B : List ℕ) (n : ℕ) → AreBytes B → 4 * n ≤ length B → little_endian (list_below n (word_at B)) ≡ take (4 * n) B
unfolding list_below little_endian
bytes_back B zero small l = refl
bytes_back B (suc n) small l =
    little_endian_append (list_below n (word_at B)) (word_at B n ∷ [])
    ∙ ap₂ (λ (x y : List ℕ). x ++ y) (bytes_back B n small (omega arith)) (append-nil (bytes_of (word_at B n)) ∙ bytes_of_word B n small (omega arith))
    ∙ sym (take-add (4 * n) 4 B)
    ∙ ap (λ (x : ℕ). take x B) {x = 4 * n + 4} {y = 4 * suc n} (omega arith)

-- ---- what is laid down as bytes is bytes, and words of bytes are words
pub small_append : (xs ys : List ℕ) → AreBytes xs → AreBytes ys → AreBytes (xs ++ ys)
small_append [] ys p q k = q k
small_append (x ∷ xs) ys p q zero = p 0
small_append (x ∷ xs) ys p q (suc k) = small_append xs ys (λ i. p (suc i)) q k

small_word : (w : ℕ) → AreBytes (bytes_of w)
unfolding bytes_of
small_word w zero = omega arith
small_word w (suc zero) = omega arith
small_word w (suc (suc zero)) = omega arith
small_word w (suc (suc (suc zero))) = omega arith
small_word w (suc (suc (suc (suc k)))) = omega arith

pub small_bytes : (ws : List ℕ) → AreBytes (little_endian ws)
unfolding little_endian
small_bytes [] k = omega arith
small_bytes (w ∷ ws) k = small_append (bytes_of w) (little_endian ws) (small_word w) (small_bytes ws) k

pub word_small : (B : List ℕ) (k : ℕ) → AreBytes B → word_at B k < 2 ^ 32
unfolding word_at
word_small B k small = omega (arith, small (4 * k), small (4 * k + 1), small (4 * k + 2), small (4 * k + 3))
