-- A memory of which the words that are not zero are known: what they are after one word, or one frame, has changed. Assumes nothing.
use Prim.Native.Nat.{ℕ, zero, suc, ◌+◌, ◌*◌, ◌≤◌, ◌<◌}
use mathlib.Core.Path.{◌≡◌, refl, sym, ap, ◌∙◌}
use mathlib.Core.Logic.{⊎_elim}
use mathlib.Core.List.{List, [], ◌∷◌}
use native.Mathlib.Omega.{arith}
use lib.Dec.{eqb, ltb}
use lib.ListN.{length, get_or, set, drop, replicate, length-set, length-replicate}
use lib.Seq.{ext_get_or, get_or-set_same, get_or-set_other}
use borrow.Author.Tests.{eq-eqb, ne_eqb, lt-ltb, le-ltb}
use Rattle.words.specs.Words.{pick, paste}
use Rattle.words.proofs.Cases.{same_or}
use Rattle.words.proofs.Paste.{length-paste}
use Rattle.machine.specs.declared.Machine.{Machine}
use Rattle.machine.specs.Machine.{frame_words}
use Rattle.memory.specs.Memory.{frame, words_of, put_word, wiped}
use Rattle.memory.proofs.Frames.{length_words_of, words_of_at, length-put_word, put_word_same, put_word_word, put_word_frame, pasted_same, pasted_other}
use Rattle.promises.proofs.Decided.Tests.{Mark, marks}
use Rattle.promises.proofs.Decided.Pages.{page_marks, all_marks, marks_of_lem}

-- ---- one word of a list
-- v at place k, before ds; and put in its place among ds
abbrev pub marked : ℕ → ℕ → List Mark → List Mark
marked k zero ds = ds
marked k (suc v) ds = record { place = k; word = suc v } ∷ ds

abbrev pub put_mark : List Mark → ℕ → ℕ → List Mark
put_mark [] k v = marked k v []
put_mark (d ∷ ds) k v = pick (ltb d.place k) (d ∷ put_mark ds k v) (pick (eqb d.place k) (marked k v ds) (marked k v (d ∷ ds)))

marks_cons : (i v : ℕ) (ws : List ℕ) → marks i (v ∷ ws) ≡ marked i v (marks (suc i) ws)
marks_cons i zero ws = refl
marks_cons i (suc v) ws = refl

put_first : (i k v : ℕ) (ws : List ℕ) → k < i → put_mark (marks i ws) k v ≡ marked k v (marks i ws)
put_first i k v [] l = refl
put_first i k v (zero ∷ ws) l = put_first (suc i) k v ws (omega arith)
put_first i k v (suc u ∷ ws) l = rw (le-ltb i k (omega arith)) (rw (ne_eqb i k (λ e. omega arith)) refl)

marks_set : (i k v : ℕ) (ws : List ℕ) → k < length ws → marks i (set ws k v) ≡ put_mark (marks i ws) (i + k) v
marks_set i k v [] l = absurd (omega arith)
marks_set i zero v (zero ∷ ws) l =
    let e : i + 0 ≡ i = omega arith in
    rw e (marks_cons i v ws ∙ sym (put_first (suc i) i v ws (omega arith)))
marks_set i zero v (suc u ∷ ws) l =
    let e : i + 0 ≡ i = omega arith in
    rw e (rw (le-ltb i i (omega arith)) (rw (eq-eqb i i refl) (marks_cons i v ws)))
marks_set i (suc k) v (zero ∷ ws) l =
    marks_set (suc i) k v ws (omega arith) ∙ ap (λ (x : ℕ). put_mark (marks (suc i) ws) x v) {x = suc i + k} {y = i + suc k} (omega arith)
marks_set i (suc k) v (suc u ∷ ws) l =
    rw (lt-ltb i (i + suc k) (omega arith))
    (ap (λ (x : List Mark). record { place = i; word = suc u } ∷ x)
    (marks_set (suc i) k v ws (omega arith) ∙ ap (λ (x : ℕ). put_mark (marks (suc i) ws) x v) {x = suc i + k} {y = i + suc k} (omega arith)))

pub no_marks : (i n : ℕ) → marks i (replicate n 0) ≡ []
no_marks i zero = refl
no_marks i (suc n) = no_marks (suc i) n

-- ---- one frame of a memory
words_same : (M N : List ℕ) (f : ℕ) → frame_words * f + frame_words ≤ length M → length N ≡ length M
    → ((k : ℕ) → k < frame_words → frame N f k ≡ frame M f k) → words_of N f ≡ words_of M f
words_same M N f l e same =
    let long : length (words_of N f) ≡ frame_words = length_words_of N f (omega arith) in
    ext_get_or 0 (words_of N f) (words_of M f) (long ∙ sym (length_words_of M f l))
    (λ k u. words_of_at N f k (omega arith) ∙ same k (omega arith) ∙ sym (words_of_at M f k (omega arith)))

words_put : (M : List ℕ) (f k v : ℕ) → frame_words * f + frame_words ≤ length M → k < frame_words → words_of (put_word M f k v) f ≡ set (words_of M f) k v
words_put M f k v l u =
    let size = length_words_of M f l in
    let long : length (words_of (put_word M f k v) f) ≡ frame_words = length_words_of (put_word M f k v) f (omega (arith, length-put_word M f k v)) in
    ext_get_or 0 (words_of (put_word M f k v) f) (set (words_of M f) k v) (long ∙ sym size ∙ sym (length-set (words_of M f) k v))
    (λ j x. words_of_at (put_word M f k v) f j (omega arith) ∙ at j (omega arith))
  where
    at : (j : ℕ) → j < frame_words → frame (put_word M f k v) f j ≡ get_or (set (words_of M f) k v) j 0
    at j x =
        ⊎_elim
        (λ e. rw e (put_word_same M f k v (omega arith) ∙ sym (get_or-set_same (words_of M f) k v 0 (omega (arith, length_words_of M f l)))))
        (λ n. put_word_word M f k v j n ∙ sym (words_of_at M f j x) ∙ sym (get_or-set_other (words_of M f) k j v 0 n)) (same_or j k)

-- ---- the pages of a memory
pub record Known (b : Machine) (M : List ℕ) (ps : List (List Mark)) : Type 0 where
  pub size : length M ≡ frame_words * b.frames
  pub pages : ps ≡ all_marks b M

length_pages : (n : ℕ) (R : List ℕ) → length (page_marks n R) ≡ n
length_pages zero R = refl
length_pages (suc n) R = omega (arith, length_pages n (drop frame_words R))

module _ {b : Machine} (room : b.secure + b.pages ≤ b.frames) {M : List ℕ} {ps : List (List Mark)} (known : Known b M ps)
    (p : ℕ) (lp : p < b.pages) where
  count : length ps ≡ b.pages
  count = ap length known.pages ∙ length_pages b.pages (drop (frame_words * b.secure) M)

  at_page : (N : List ℕ) (qs : List (List Mark)) → qs ≡ all_marks b N → (q : ℕ) → q < b.pages → get_or qs q [] ≡ marks 0 (words_of N (b.secure + q))
  at_page N qs e q l = sym (rw (lt-ltb q b.pages l) refl) ∙ marks_of_lem b N qs e q

  -- only page p has changed, and now holds these words
  changed : (N ws : List ℕ) → length N ≡ length M → ((f : ℕ) → (f ≡ b.secure + p → ⊥) → (k : ℕ) → k < frame_words → frame N f k ≡ frame M f k)
      → words_of N (b.secure + p) ≡ ws → Known b N (set ps p (marks 0 ws))
  changed N ws e same now =
      record {
        size = e ∙ known.size;
        pages =
            ext_get_or [] (set ps p (marks 0 ws)) (all_marks b N) (size ∙ sym (length_pages b.pages (drop (frame_words * b.secure) N)))
            (λ q l. let u : q < b.pages = omega (arith, size) in at q u ∙ sym (at_page N (all_marks b N) refl q u));
      }
    where
      size : length (set ps p (marks 0 ws)) ≡ b.pages
      size = length-set ps p (marks 0 ws) ∙ count

      at : (q : ℕ) → q < b.pages → get_or (set ps p (marks 0 ws)) q [] ≡ marks 0 (words_of N (b.secure + q))
      at q l =
          ⊎_elim (λ x. rw x (get_or-set_same ps p (marks 0 ws) [] (omega (arith, count)) ∙ ap (marks 0) (sym now)))
          (λ n. get_or-set_other ps p q (marks 0 ws) [] n ∙ at_page M ps known.pages q l
          ∙ ap (marks 0)
          (sym (words_same M N (b.secure + q) (omega (arith, known.size)) e (same (b.secure + q) (λ x. n (omega arith)))))) (same_or q p)

  inside : frame_words * (b.secure + p) + frame_words ≤ length M
  inside = omega (arith, known.size)

  pub known_put : (k v : ℕ) → k < frame_words → Known b (put_word M (b.secure + p) k v) (set ps p (put_mark (get_or ps p []) k v))
  known_put k v l =
      let f = b.secure + p in
      let e : marks 0 (set (words_of M f) k v) ≡ put_mark (get_or ps p []) k v
      = marks_set 0 k v (words_of M f) (omega (arith, length_words_of M f inside))
      ∙ ap (λ (x : ℕ). put_mark (marks 0 (words_of M f)) x v) {x = 0 + k} {y = k} (omega arith)
      ∙ ap (λ (ds : List Mark). put_mark ds k v) (sym (at_page M ps known.pages p lp)) in
      rw e at
      (changed (put_word M f k v) (set (words_of M f) k v) (length-put_word M f k v) (λ g n j u. put_word_frame M f k v l g j n u)
      (words_put M f k v inside l))

  pub known_paste : (ws : List ℕ) → length ws ≡ frame_words → Known b (paste M (frame_words * (b.secure + p)) frame_words ws) (set ps p (marks 0 ws))
  known_paste ws e =
      let f = b.secure + p in
      let N = paste M (frame_words * f) frame_words ws in
      let same_length : length N ≡ length M = length-paste M (frame_words * f) frame_words ws inside e in
      let long : length (words_of N f) ≡ frame_words = length_words_of N f (omega (arith, inside)) in
      changed N ws same_length (λ g n k u. pasted_other M f ws inside e g k n u)
      (ext_get_or 0 (words_of N f) ws (long ∙ sym e) (λ k u. words_of_at N f k (omega arith) ∙ pasted_same M f ws inside e k (omega arith)))

  pub known_wiped : Known b (wiped M (b.secure + p)) (set ps p [])
  unfolding wiped
  known_wiped = rw (← no_marks 0 frame_words) (known_paste (replicate frame_words 0) (length-replicate {A = ℕ} frame_words 0))
