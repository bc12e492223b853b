-- Words pasted into a list: its length and its words afterwards, the paste word by word, and a paste behind a word or a paste. Assumes nothing.
use Prim.Native.Nat.{ℕ, suc, ◌+◌, ◌-◌, ◌≤◌, ◌<◌}
use mathlib.Core.Path.{◌≡◌, sym, ap, ap₂, ◌∙◌}
use mathlib.Core.List.{List, [], ◌∷◌, ◌++◌, append_assoc}
use native.Mathlib.Omega.{arith}
use native.Mathlib.Numerals.{add-one}
use lib.ListN.{length, get_or, set, take, drop, length-append, length-take, length-drop, get_or-append}
use lib.Seq.{length-take-le, get_or-take, get_or-drop, get_or-append-add, take_all, take_at, take-suc-set, drop-set-lt, drop-append-add, drop-drop, paste-zero, paste-suc}
use borrow.Rule.Slice.PartMut.{put_mid}
use Rattle.words.specs.Words.{paste}

module _ (M : List ℕ) (i n : ℕ) (vs : List ℕ) (fits : i + n ≤ length M) (size : length vs ≡ n) where
  front : length (take i M) ≡ i
  front = length-take-le i M (omega arith)

  pub length-paste : length (paste M i n vs) ≡ length M
  unfolding paste
  length-paste = simp (length-append, length-take, length-drop) (omega arith)

  pub paste_before : (k : ℕ) → k < i → get_or (paste M i n vs) k 0 ≡ get_or M k 0
  unfolding paste
  paste_before k l = get_or-append (take i M) (vs ++ drop (i + n) M) 0 k (rw front l) ∙ get_or-take i M k 0 l

  past : (k : ℕ) → get_or (paste M i n vs) (i + k) 0 ≡ get_or (vs ++ drop (i + n) M) k 0
  unfolding paste
  past k =
      ap (λ (x : ℕ). get_or (take i M ++ (vs ++ drop (i + n) M)) (x + k) 0) (sym front)
      ∙ get_or-append-add (take i M) (vs ++ drop (i + n) M) k 0

  pub paste_in : (k : ℕ) → k < n → get_or (paste M i n vs) (i + k) 0 ≡ get_or vs k 0
  paste_in k l = past k ∙ get_or-append vs (drop (i + n) M) 0 k (rw size l)

  beyond : (k : ℕ) → get_or (paste M i n vs) (i + (n + k)) 0 ≡ get_or M (i + n + k) 0
  beyond k =
      past (n + k)
      ∙ ap (λ (x : ℕ). get_or (vs ++ drop (i + n) M) (x + k) 0) (sym size)
      ∙ get_or-append-add vs (drop (i + n) M) k 0
      ∙ get_or-drop (i + n) M k 0

  pub paste_after : (k : ℕ) → i + n ≤ k → get_or (paste M i n vs) k 0 ≡ get_or M k 0
  paste_after k l =
      ap (λ (x : ℕ). get_or (paste M i n vs) x 0) {x = k} {y = i + (n + (k - (i + n)))} (omega arith)
      ∙ beyond (k - (i + n))
      ∙ ap (λ (x : ℕ). get_or M x 0) {x = i + n + (k - (i + n))} {y = k} (omega arith)

-- ---- no word pasted
pub paste_none : (M : List ℕ) (i : ℕ) (vs : List ℕ) → M ≡ paste M i 0 (take 0 vs)
unfolding paste
paste_none M i vs = paste-zero M i vs ∙ append_assoc (take i M) (take 0 vs) (drop (i + 0) M)

-- ---- one word more
pub paste_more : (M : List ℕ) (i : ℕ) (vs : List ℕ) (k : ℕ) → i + k < length M → k < length vs
    → set (paste M i k (take k vs)) (i + k) (get_or vs k 0) ≡ paste M i (k + 1) (take (k + 1) vs)
unfolding paste
paste_more M i vs k l m =
    ap (λ (x : List ℕ). set x (i + k) (get_or vs k 0)) (sym (append_assoc (take i M) (take k vs) (drop (i + k) M)))
    ∙ paste-suc M i vs k 0 l m
    ∙ append_assoc (take i M) (take (suc k) vs) (drop (i + suc k) M)
    ∙ ap (λ (j : ℕ). take i M ++ (take j vs ++ drop (i + j) M)) (sym (add-one k))

-- a turn of a loop that stores v, which is word k of vs; and its end
pub paste_turn : {S : List ℕ} {v : ℕ} (M : List ℕ) (i : ℕ) (vs : List ℕ) (k : ℕ) → S ≡ paste M i k (take k vs) → v ≡ get_or vs k 0
    → i + k < length M → k < length vs → set S (i + k) v ≡ paste M i (k + 1) (take (k + 1) vs)
paste_turn M i vs k s e l m = rw s (rw e (paste_more M i vs k l m))

pub paste_all : (M : List ℕ) (i n : ℕ) (vs : List ℕ) (k : ℕ) → length vs ≡ n → k ≤ n → n ≤ k → paste M i k (take k vs) ≡ paste M i n vs
paste_all M i n vs k size l m =
    ap (λ (j : ℕ). paste M i j (take j vs)) {x = k} {y = n} (omega arith) ∙ ap (paste M i n) (take_all n vs (omega arith))

-- one word set, and more pasted behind it
pub paste_first : (M : List ℕ) (i v : ℕ) (vs : List ℕ) → i < length M → paste (set M i v) (i + 1) (length vs) vs ≡ paste M i (suc (length vs)) (v ∷ vs)
unfolding paste
paste_first M i v vs l =
    ap (λ (x : ℕ). take x (set M i v) ++ (vs ++ drop (i + 1 + length vs) (set M i v))) (add-one i)
    ∙ ap₂ (λ (x y : List ℕ). x ++ (vs ++ y)) (take-suc-set M i v l) (drop-set-lt (i + 1 + length vs) M i v (omega arith))
    ∙ append_assoc (take i M) (v ∷ []) (vs ++ drop (i + 1 + length vs) M)
    ∙ ap (λ (x : ℕ). take i M ++ (v ∷ (vs ++ drop x M))) {x = i + 1 + length vs} {y = i + suc (length vs)} (omega arith)

-- ---- after a write to `M[i..i + n]`: what the part holds now is pasted
pub part_pasted : (i k : ℕ) (M ys : List ℕ) (n : ℕ) (vs : List ℕ) → k ≡ n → ys ≡ vs → put_mid i k M ys ≡ paste M i n vs
unfolding paste
part_pasted i k M ys n vs l e = rw (l, e) (ap (λ (x : List ℕ). take i M ++ (vs ++ x)) (drop-drop n i M))

-- ---- a paste right behind a paste is one paste
module _ (M : List ℕ) (i n m : ℕ) (us vs : List ℕ) (fits : i + n ≤ length M) (size : length us ≡ n) where
  abbrev head : List ℕ
  head = take i M ++ us

  head_size : length head ≡ i + n
  head_size = length-append (take i M) us ∙ omega (arith, length-take-le i M (omega arith))

  split : paste M i n us ≡ head ++ drop (i + n) M
  unfolding paste
  split = sym (append_assoc (take i M) us (drop (i + n) M))

  after : drop (i + n + m) (head ++ drop (i + n) M) ≡ drop (i + (n + m)) M
  after =
      ap (λ (x : ℕ). drop (x + m) (head ++ drop (i + n) M)) (sym head_size)
      ∙ drop-append-add head (drop (i + n) M) m
      ∙ drop-drop m (i + n) M
      ∙ ap (λ (x : ℕ). drop x M) {x = i + n + m} {y = i + (n + m)} (omega arith)

  pub paste_behind : paste (paste M i n us) (i + n) m vs ≡ paste M i (n + m) (us ++ vs)
  unfolding paste
  paste_behind =
      ap (λ (x : List ℕ). paste x (i + n) m vs) split
      ∙ ap (λ (x : List ℕ). x ++ (vs ++ drop (i + n + m) (head ++ drop (i + n) M))) (take_at head (drop (i + n) M) (i + n) head_size)
      ∙ ap (λ (x : List ℕ). head ++ (vs ++ x)) after
      ∙ append_assoc (take i M) us (vs ++ drop (i + (n + m)) M)
      ∙ ap (λ (x : List ℕ). take i M ++ x) (sym (append_assoc us vs (drop (i + (n + m)) M)))
