-- What each writer of the memory does to its view `frame` and to its length. Assumes nothing.
use Prim.Native.Nat.{ℕ, ◌+◌, ◌*◌, ◌-◌, ◌≤◌, ◌<◌}
use mathlib.Core.Path.{◌≡◌, refl, sym, ap, ◌∙◌}
use mathlib.Core.List.{List}
use native.Mathlib.Omega.{arith}
use native.Mathlib.Decide.{dec_lt}
use lib.ListN.{length, get_or, take, drop, replicate, length-set, length-take, length-drop, length-replicate, get_or-eq_default}
use lib.Seq.{length-take-le, ext_get_or, get_or-set_same, get_or-set_other, get_or-take, get_or-drop, set_out}
use Rattle.words.specs.Words.{paste}
use Rattle.words.proofs.Paste.{length-paste, paste_before, paste_in, paste_after}
use Rattle.words.proofs.Lists.{zeros_at}
use Rattle.machine.specs.Machine.{frame_words}
use Rattle.memory.specs.Memory.{frame, words_of, put_word, copied, wiped}

-- ---- a word outside the memory
module _ (M : List ℕ) (f k : ℕ) (l : length M ≤ frame_words * f + k) where
  pub frame_out : frame M f k ≡ 0
  unfolding frame
  frame_out = get_or-eq_default M 0 l

  pub put_word_out : (v : ℕ) → put_word M f k v ≡ M
  unfolding put_word
  put_word_out v = set_out M (frame_words * f + k) v l

-- ---- the words of a frame
module _ (M : List ℕ) (f : ℕ) where
  pub length_words_of : frame_words * f + frame_words ≤ length M → length (words_of M f) ≡ frame_words
  unfolding words_of
  length_words_of l = simp (length-take, length-drop) (omega arith)

  pub words_of_at : (k : ℕ) → k < frame_words → get_or (words_of M f) k 0 ≡ frame M f k
  unfolding words_of frame
  words_of_at k l = get_or-take frame_words (drop (frame_words * f) M) k 0 l ∙ get_or-drop (frame_words * f) M k 0

  -- what `&mem[a..e]` is, from the frame's first word up to its end
  pub part_is : (a e : ℕ) → a ≡ frame_words * f → e ≡ frame_words * f + frame_words → take (e - a) (drop a M) ≡ words_of M f
  unfolding words_of
  part_is a e p q =
      ap (λ (x : ℕ). take (e - a) (drop x M)) p ∙ ap (λ (x : ℕ). take x (drop (frame_words * f) M)) {x = e - a} {y = frame_words} (omega arith)

-- ---- one word
module _ (M : List ℕ) (f k v : ℕ) where
  pub length-put_word : length (put_word M f k v) ≡ length M
  unfolding put_word
  length-put_word = length-set M (frame_words * f + k) v

  pub put_word_same : frame_words * f + k < length M → frame (put_word M f k v) f k ≡ v
  unfolding put_word frame
  put_word_same l = get_or-set_same M (frame_words * f + k) v 0 l

  pub put_word_other : (g j : ℕ) → (frame_words * g + j ≡ frame_words * f + k → ⊥) → frame (put_word M f k v) g j ≡ frame M g j
  unfolding put_word frame
  put_word_other g j n = get_or-set_other M (frame_words * f + k) (frame_words * g + j) v 0 n

  -- another word of the frame, and a word of another frame
  pub put_word_word : (j : ℕ) → (j ≡ k → ⊥) → frame (put_word M f k v) f j ≡ frame M f j
  put_word_word j n = put_word_other f j (λ e. n (omega arith))

  pub put_word_frame : k < frame_words → (g j : ℕ) → (g ≡ f → ⊥) → j < frame_words → frame (put_word M f k v) g j ≡ frame M g j
  put_word_frame l g j n m = put_word_other g j (λ e. n (omega arith))

-- ---- a whole frame
module _ (M : List ℕ) (g : ℕ) (vs : List ℕ) (l : frame_words * g + frame_words ≤ length M) (size : length vs ≡ frame_words) where
  pub pasted_same : (k : ℕ) → k < frame_words → frame (paste M (frame_words * g) frame_words vs) g k ≡ get_or vs k 0
  unfolding frame
  pasted_same k m = paste_in M (frame_words * g) frame_words vs l size k m

  pub pasted_other : (h k : ℕ) → (h ≡ g → ⊥) → k < frame_words → frame (paste M (frame_words * g) frame_words vs) h k ≡ frame M h k
  unfolding frame
  pasted_other h k n m = go (dec_lt h g)
    where
      go : Dec (h < g) → get_or (paste M (frame_words * g) frame_words vs) (frame_words * h + k) 0 ≡ get_or M (frame_words * h + k) 0
      go (yes b) = paste_before M (frame_words * g) frame_words vs l size (frame_words * h + k) (omega arith)
      go (no b) = paste_after M (frame_words * g) frame_words vs l size (frame_words * h + k) (omega arith)

abbrev pub zeros : List ℕ
zeros = replicate frame_words 0

pub length-zeros : length zeros ≡ frame_words
length-zeros = length-replicate {A = ℕ} frame_words 0

-- as many as the part of the memory that is a frame has words
pub zeros_in : (M : List ℕ) (g : ℕ) → frame_words * g + frame_words ≤ length M
    → replicate (length (take (frame_words * g + frame_words - frame_words * g) (drop (frame_words * g) M))) 0 ≡ zeros
zeros_in M g l = rw (part_is M g (frame_words * g) (frame_words * g + frame_words) refl refl) (rw (length_words_of M g l))

module _ (M : List ℕ) (g : ℕ) (l : frame_words * g + frame_words ≤ length M) where
  pub length-wiped : length (wiped M g) ≡ length M
  unfolding wiped
  length-wiped = length-paste M (frame_words * g) frame_words zeros l length-zeros

  pub wiped_same : (k : ℕ) → k < frame_words → frame (wiped M g) g k ≡ 0
  unfolding wiped
  wiped_same k m = pasted_same M g zeros l length-zeros k m ∙ zeros_at frame_words k

  pub wiped_other : (h k : ℕ) → (h ≡ g → ⊥) → k < frame_words → frame (wiped M g) h k ≡ frame M h k
  unfolding wiped
  wiped_other = pasted_other M g zeros l length-zeros

module _ (M : List ℕ) (f g : ℕ) (lf : frame_words * f + frame_words ≤ length M) (lg : frame_words * g + frame_words ≤ length M) where
  pub length-copied : length (copied M f g) ≡ length M
  unfolding copied
  length-copied = length-paste M (frame_words * g) frame_words (words_of M f) lg (length_words_of M f lf)

  pub copied_same : (k : ℕ) → k < frame_words → frame (copied M f g) g k ≡ frame M f k
  unfolding copied
  copied_same k m = pasted_same M g (words_of M f) lg (length_words_of M f lf) k m ∙ words_of_at M f k m

  -- what was copied, read off the copy
  pub words_copied : words_of (copied M f g) g ≡ words_of M f
  words_copied =
      let long : frame_words * g + frame_words ≤ length (copied M f g) = omega (arith, length-copied) in
      let same : length (words_of (copied M f g) g) ≡ frame_words = length_words_of (copied M f g) g long in
      ext_get_or 0 (words_of (copied M f g) g) (words_of M f) (same ∙ sym (length_words_of M f lf))
      (λ k l.
      let m : k < frame_words = omega arith in
      words_of_at (copied M f g) g k m ∙ copied_same k m ∙ sym (words_of_at M f k m))

  pub copied_other : (h k : ℕ) → (h ≡ g → ⊥) → k < frame_words → frame (copied M f g) h k ≡ frame M h k
  unfolding copied
  copied_other = pasted_other M g (words_of M f) lg (length_words_of M f lf)

  -- while frame f is copied to another frame g, what is still to be copied stays
  pub source : {S : List ℕ} (k : ℕ) → S ≡ paste M (frame_words * g) k (take k (words_of M f)) → (f ≡ g → ⊥) → k < frame_words
      → get_or S (frame_words * f + k) 0 ≡ get_or (words_of M f) k 0
  unfolding frame
  source k s n m = rw s (go (dec_lt f g) ∙ sym (words_of_at M f k m))
    where
      size : length (take k (words_of M f)) ≡ k
      size = length-take-le k (words_of M f) (omega (arith, length_words_of M f lf))

      go : Dec (f < g) → get_or (paste M (frame_words * g) k (take k (words_of M f))) (frame_words * f + k) 0 ≡ get_or M (frame_words * f + k) 0
      go (yes b) = paste_before M (frame_words * g) k (take k (words_of M f)) (omega arith) size (frame_words * f + k) (omega arith)
      go (no b) = paste_after M (frame_words * g) k (take k (words_of M f)) (omega arith) size (frame_words * f + k) (omega arith)
