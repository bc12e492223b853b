-- The 64 rounds in four times sixteen, over the schedule in four times sixteen words. Assumes nothing.
use Rattle.std.proofs.Common.{◌≡◌, ℕ, zero, suc, ◌+◌, ◌-◌, ◌%◌, ◌<◌, ◌≤◌, List, [], ◌∷◌, length, get_or, take, drop, set, sym, refl, ◌∙◌, ⊎_elim, add-zero, add-suc, arith, length-append, length-drop, length-set, get_or-drop, get_or-set_other, get_or-take, get_or-set_same, drop-drop, ext_get_or}
use lib.ListN.{get_or-append}
use lib.Seq.{get_or_at, drop-append-le}
use Rattle.words.proofs.Cases.{lt_or_ge}
use Rattle.sha256.specs.Sha256.{◌⊞◌, σ0, σ1, next_word, words, schedule, round, rounds, K}
use Rattle.sha256.specs.declared.rounds.Vars.{Vars}

module _ (b : List ℕ) (l : length b ≡ 16) where
  words_length : (n : ℕ) → length (words n b) ≡ 16 + n
  unfolding words
  words_length zero = l
  words_length (suc n) = omega (arith, length-append (words n b) (next_word (words n b) ∷ []), words_length n)

  -- a word that is there stays
  words_keep : (m n : ℕ) → n < 16 + m → get_or (words (suc m) b) n 0 ≡ get_or (words m b) n 0
  unfolding words
  words_keep m n h = get_or-append (words m b) (next_word (words m b) ∷ []) 0 n (omega (arith, words_length m))

  words_front : (d m n : ℕ) → n < 16 + m → get_or (words (m + d) b) n 0 ≡ get_or (words m b) n 0
  words_front zero m n h = rw (add-zero m)
  words_front (suc d) m n h = rw (add-suc m d) (words_keep (m + d) n (omega arith) ∙ words_front d m n h)

  -- the word that is added
  words_last : (m : ℕ) → get_or (words (suc m) b) (16 + m) 0 ≡ next_word (words m b)
  unfolding words
  words_last m = get_or_at (words m b) (next_word (words m b)) [] 0 (16 + m) (words_length m)

-- the word sixteen on takes the place of word n, and so for the first n words
abbrev roll : List ℕ → ℕ → List ℕ
roll w n =
    set w n (σ1 (get_or w ((n + 14) % 16) 0) ⊞ get_or w ((n + 9) % 16) 0 ⊞ σ0 (get_or w ((n + 1) % 16) 0) ⊞ get_or w n 0)

unfoldable pub rolls : ℕ → List ℕ → List ℕ
rolls zero w = w
rolls (suc n) w = roll (rolls n w) n

pub rolls_more : (w₀ : List ℕ) {w x : List ℕ} (n : ℕ) → w ≡ rolls n w₀ → x ≡ roll w n → x ≡ rolls (suc n) w₀
unfolding rolls
rolls_more w₀ n p q = cc

rolls_length : (n : ℕ) (w : List ℕ) → length (rolls n w) ≡ length w
unfolding rolls
rolls_length zero w = refl
rolls_length (suc n) w = simp length-set (rolls_length n w)

-- w has the words n to n + 15, word m at m % 16
abbrev Window : List ℕ → List ℕ → ℕ → Type 0
Window b w n = (i : ℕ) → i < 16 → get_or w ((n + i) % 16) 0 ≡ get_or (words n b) (n + i) 0

roll_next : (b w : List ℕ) (n : ℕ) → length b ≡ 16 → n < 16 → Window b w n
    → σ1 (get_or w ((n + 14) % 16) 0) ⊞ get_or w ((n + 9) % 16) 0 ⊞ σ0 (get_or w ((n + 1) % 16) 0) ⊞ get_or w n 0 ≡ next_word (words n b)
unfolding next_word
roll_next b w n l h win =
    let e2 : 16 + n - 2 ≡ n + 14 = omega arith in
    let e7 : 16 + n - 7 ≡ n + 9 = omega arith in
    let e15 : 16 + n - 15 ≡ n + 1 = omega arith in
    let e16 : 16 + n - 16 ≡ n = omega arith in
    let m : (n + 0) % 16 ≡ n = omega arith in
    let z : n + 0 ≡ n = omega arith in
    let w0 : get_or w n 0 ≡ get_or (words n b) n 0 = rw (m, z) at (win 0 (omega arith)) in
    rw (words_length b l n, e2, e7, e15, e16, win 14 (omega arith), win 9 (omega arith), win 1 (omega arith), w0)

rolls_window : (b : List ℕ) (n : ℕ) → length b ≡ 16 → n ≤ 16 → Window b (rolls n b) n
unfolding rolls words
rolls_window b zero l h i g =
    let e : (0 + i) % 16 ≡ i = omega arith in
    let f : 0 + i ≡ i = omega arith in
    rw (e, f)
rolls_window b (suc n) l h i g =
    let win : Window b (rolls n b) n = rolls_window b n l (omega arith) in
    ⊎_elim
    (λ (p : i < 15).
    let e : suc n + i ≡ n + (i + 1) = omega arith in
    let ne : (n + (i + 1)) % 16 ≡ n → ⊥ = λ z. omega arith in
    rw (e, get_or-set_other (rolls n b) n ((n + (i + 1)) % 16) _ 0 ne, win (i + 1) (omega arith))
    (sym (words_keep b l n (n + (i + 1)) (omega arith))))
    (λ (p : 15 ≤ i).
    let e : suc n + i ≡ 16 + n = omega arith in
    let m : (16 + n) % 16 ≡ n = omega arith in
    rw (e, m, get_or-set_same (rolls n b) n _ 0 (omega (arith, rolls_length n b)))
    (roll_next b (rolls n b) n l (omega arith) win ∙ sym (words_last b l n)))
    (lt_or_ge i 15)

-- sixteen words rolled are the next sixteen
pub rolls_words : (b : List ℕ) → length b ≡ 16 → rolls 16 b ≡ drop 16 (words 16 b)
rolls_words b l =
    ext_get_or 0 (rolls 16 b) (drop 16 (words 16 b))
    (omega (arith, rolls_length 16 b, length-drop 16 (words 16 b), words_length b l 16))
    (λ i h.
    let g : i < 16 = omega (arith, rolls_length 16 b) in
    let e : (16 + i) % 16 ≡ i = omega arith in
    (rw e at (rolls_window b 16 l (omega arith) i g)) ∙ sym (get_or-drop 16 (words 16 b) i 0))

-- the next word needs only the last sixteen
next_drop : (k : ℕ) (w : List ℕ) → k + 16 ≤ length w → next_word (drop k w) ≡ next_word w
unfolding next_word
next_drop k w h =
    let e : (j : ℕ) → j ≤ 16 → k + (length w - k - j) ≡ length w - j = λ j g. omega arith in
    rw (length-drop k w, get_or-drop k w (length w - k - 2) 0, get_or-drop k w (length w - k - 7) 0, get_or-drop k w (length w - k - 15) 0, get_or-drop k w (length w - k - 16) 0, e 2 (omega arith), e 7 (omega arith), e 15 (omega arith), e 16 (omega arith))

words_on : (b : List ℕ) (k n : ℕ) → length b ≡ 16 → words n (drop k (words k b)) ≡ drop k (words (k + n) b)
unfolding words
words_on b k zero l = rw (add-zero k)
words_on b k (suc n) l =
    let m : length (words (k + n) b) ≡ 16 + (k + n) = words_length b l (k + n) in
    rw (words_on b k n l, add-suc k n, next_drop k (words (k + n) b) (omega arith))
    (sym (drop-append-le k (words (k + n) b) (next_word (words (k + n) b) ∷ []) (omega arith)))

-- sixteen words on
part_on : (b : List ℕ) {w x : List ℕ} (t : ℕ) → length b ≡ 16 → w ≡ drop t (words t b) → x ≡ drop 16 (words 16 w)
    → x ≡ drop (t + 16) (words (t + 16) b)
part_on b t l p q = q ∙ rw (p, words_on b t 16 l) (drop-drop 16 t (words (t + 16) b))

-- n rounds on
rounds_on : (k w s : List ℕ) (v : Vars) (t n : ℕ)
    → ((i : ℕ) → i < n → get_or k i 0 ≡ get_or K (t + i) 0)
    → ((i : ℕ) → i < n → get_or w i 0 ≡ get_or s (t + i) 0)
    → rounds n k w (rounds t K s v) ≡ rounds (t + n) K s v
unfolding rounds
rounds_on k w s v t zero p q = rw (add-zero t)
rounds_on k w s v t (suc n) p q =
    rw (add-suc t n, p n (omega arith), q n (omega arith), rounds_on k w s v t n (λ i h. p i (omega arith)) (λ i h. q i (omega arith)))

-- one round more
pub rounds_more : (k w : List ℕ) (v₀ : Vars) {v x : Vars} (n : ℕ) → v ≡ rounds n k w v₀ → x ≡ round v (get_or k n 0) (get_or w n 0)
    → x ≡ rounds (suc n) k w v₀
unfolding rounds
rounds_more k w v₀ n p q = cc

-- sixteen rounds on
turn : (b k : List ℕ) (v₀ : Vars) {w : List ℕ} {v x : Vars} (t : ℕ) → length b ≡ 16 → t ≤ 48 → k ≡ take 16 (drop t K)
    → w ≡ drop t (words t b) → v ≡ rounds t K (schedule b) v₀ → x ≡ rounds 16 k w v → x ≡ rounds (t + 16) K (schedule b) v₀
unfolding schedule
turn b k v₀ {w} t l h e p q r =
    let d : t + (48 - t) ≡ 48 = omega arith in
    (rw q at r)
    ∙ rounds_on k w (schedule b) v₀ t 16
    (λ i g. rw e (get_or-take 16 (drop t K) i 0 g ∙ get_or-drop t K i 0))
    (λ i g. rw p (get_or-drop t (words t b) i 0 ∙ sym (rw d at (words_front b l (48 - t) t (t + i) (omega arith)))))

none : (b : List ℕ) → b ≡ drop 0 (words 0 b)
unfolding words
none b = refl

-- four times sixteen rounds, with the next sixteen words between
pub sixty_four : (b : List ℕ) (v₀ : Vars) {w1 w2 w3 k0 k1 k2 k3 : List ℕ} {v1 v2 v3 v4 : Vars} → length b ≡ 16
    → k0 ≡ take 16 (drop 0 K) → k1 ≡ take 16 (drop 16 K) → k2 ≡ take 16 (drop 32 K) → k3 ≡ take 16 (drop 48 K)
    → v1 ≡ rounds 16 k0 b v₀ → w1 ≡ drop 16 (words 16 b) → v2 ≡ rounds 16 k1 w1 v1 → w2 ≡ drop 16 (words 16 w1)
    → v3 ≡ rounds 16 k2 w2 v2 → w3 ≡ drop 16 (words 16 w2) → v4 ≡ rounds 16 k3 w3 v3
    → v4 ≡ rounds 64 K (schedule b) v₀
unfolding rounds
sixty_four b v₀ {w1} {w2} {w3} l c0 c1 c2 c3 r0 p1 r1 p2 r2 p3 r3 =
    let x2 : w2 ≡ drop 32 (words 32 b) = part_on b 16 l p1 p2 in
    let x3 : w3 ≡ drop 48 (words 48 b) = part_on b 32 l x2 p3 in
    turn b _ v₀ 48 l (omega arith) c3 x3
    (turn b _ v₀ 32 l (omega arith) c2 x2
    (turn b _ v₀ 16 l (omega arith) c1 p1 (turn b _ v₀ 0 l (omega arith) c0 (none b) refl r0) r1)
    r2)
    r3
