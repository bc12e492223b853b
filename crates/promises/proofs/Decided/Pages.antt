-- The pages and records as marks: what is asked of the words that are not zero is asked of the page. Assumes nothing.
use Prim.Native.Nat.{ℕ, zero, suc, ◌+◌, ◌-◌, ◌*◌, ◌≤◌, ◌<◌}
use mathlib.Core.Path.{◌≡◌, refl, sym, ap, ◌∙◌}
use mathlib.Core.Bool.{Bool, true, false}
use mathlib.Core.Logic.{⊎_elim}
use mathlib.Core.List.{List, [], ◌∷◌}
use native.Mathlib.Omega.{arith}
use lib.Dec.{ltb}
use lib.ListN.{get_or, take, drop, length-take, get_or-eq_default}
use lib.Seq.{drop-nil, get_or-drop, get_or-take}
use borrow.Author.Tests.{ltb-true}
use Rattle.words.specs.Words.{record_words, pick}
use Rattle.words.proofs.Cases.{lt_or_ge}
use Rattle.machine.specs.declared.Machine.{Machine}
use Rattle.machine.specs.Machine.{frame_words, header_words}
use Rattle.ledger.specs.Ledger.{header, rec}
use Rattle.memory.specs.Memory.{frame, words_of}
use Rattle.memory.proofs.Frames.{words_of_at}
use Rattle.accept.specs.Accept.{Zeros}
use Rattle.accept.proofs.Words.{Shows}
use Rattle.promises.proofs.Decided.Tests.{Decided, as_if, equal, less, at_most, where_so, all_zero_lem, Mark, marks, held, held_is, Each, each, each_word, each_mark}

-- ---- words that a list shows
module _ {ws : List ℕ} {r : ℕ → ℕ} {n : ℕ} (s : Shows ws r n) (ds : List Mark) (e : ds ≡ marks 0 ws) where
  module _ (P : ℕ → ℕ → Type 0) where
    pub to_words : ((i : ℕ) → P i 0) → Each P ds → (k : ℕ) → k < n → P k (r k)
    to_words z x k l =
        let zero_first : 0 + k ≡ k = omega arith in
        rw (zero_first, s.at k l) at (each_word P z 0 ws (rw e at x) k (omega (arith, s.size)))

    pub from_words : ((k : ℕ) → k < n → P k (r k)) → Each P ds
    from_words all = rw e (each_mark P 0 ws (λ k l. go k (omega (arith, s.size))))
      where
        go : (k : ℕ) → k < n → P (0 + k) (get_or ws k 0)
        go k l = let zero_first : 0 + k ≡ k = omega arith in rw (zero_first, s.at k l) (all k l)

    abbrev pub of_words : ((i : ℕ) → P i 0) → ((i v : ℕ) → Decided (P i v)) → Decided ((k : ℕ) → k < n → P k (r k))
    of_words z f = as_if (to_words z) from_words (each P f ds)

  abbrev pub zeros : (lo hi : ℕ) → hi ≤ n → Decided (Zeros r lo hi)
  zeros lo hi h =
      as_if (λ all k l u. all k (omega arith) l u) (λ z k l. z k)
      (of_words (λ k v. lo ≤ k → k < hi → v ≡ 0) (λ i l u. refl)
      (λ i v. where_so (at_most lo i) (λ _. where_so (less i hi) (λ _. equal v 0))))

-- ---- words lo to hi - 1 of the words from word i of the ledger on
module _ (L : List ℕ) (i lo hi : ℕ) where
  pub to_zeros : ((k : ℕ) → get_or (take (hi - lo) (drop (i + lo) L)) k 0 ≡ 0) → Zeros (λ k. get_or L (i + k) 0) lo hi
  to_zeros z k l u =
      ap (λ (x : ℕ). get_or L x 0) {x = i + k} {y = i + lo + (k - lo)} (omega arith)
      ∙ sym (get_or-drop (i + lo) L (k - lo) 0)
      ∙ sym (get_or-take (hi - lo) (drop (i + lo) L) (k - lo) 0 (omega arith))
      ∙ z (k - lo)

  pub from_zeros : Zeros (λ k. get_or L (i + k) 0) lo hi → (k : ℕ) → get_or (take (hi - lo) (drop (i + lo) L)) k 0 ≡ 0
  from_zeros z k = ⊎_elim here past (lt_or_ge k (hi - lo))
    where
      here : k < hi - lo → get_or (take (hi - lo) (drop (i + lo) L)) k 0 ≡ 0
      here l =
          get_or-take (hi - lo) (drop (i + lo) L) k 0 l ∙ get_or-drop (i + lo) L k 0
          ∙ ap (λ (x : ℕ). get_or L x 0) {x = i + lo + k} {y = i + (lo + k)} (omega arith)
          ∙ z (lo + k) (omega arith) (omega arith)

      past : hi - lo ≤ k → get_or (take (hi - lo) (drop (i + lo) L)) k 0 ≡ 0
      past l = get_or-eq_default (take (hi - lo) (drop (i + lo) L)) 0 (omega (arith, length-take (hi - lo) (drop (i + lo) L)))

  abbrev pub part_zeros : Decided (Zeros (λ k. get_or L (i + k) 0) lo hi)
  part_zeros = as_if to_zeros from_zeros (all_zero_lem (take (hi - lo) (drop (i + lo) L)))

-- of page p's record, and of the header
module _ (L : List ℕ) (p lo hi : ℕ) where
  pub to_record : Zeros (λ k. get_or L (header_words + record_words * p + k) 0) lo hi → Zeros (rec L p) lo hi
  unfolding rec
  to_record z = z

  pub from_record : Zeros (rec L p) lo hi → Zeros (λ k. get_or L (header_words + record_words * p + k) 0) lo hi
  unfolding rec
  from_record z = z

  abbrev pub record_zeros : Decided (Zeros (rec L p) lo hi)
  record_zeros = as_if to_record from_record (part_zeros L (header_words + record_words * p) lo hi)

module _ (L : List ℕ) (lo : ℕ) where
  pub to_header : Zeros (λ k. get_or L (0 + k) 0) lo header_words → Zeros (header L) lo header_words
  unfolding header
  to_header z k l u = ap (λ (x : ℕ). get_or L x 0) {x = k} {y = 0 + k} (omega arith) ∙ z k l u

  pub from_header : Zeros (header L) lo header_words → Zeros (λ k. get_or L (0 + k) 0) lo header_words
  unfolding header
  from_header z k l u = ap (λ (x : ℕ). get_or L x 0) {x = 0 + k} {y = k} (omega arith) ∙ z k l u

  abbrev pub header_zeros : Decided (Zeros (header L) lo header_words)
  header_zeros = as_if to_header from_header (part_zeros L 0 lo header_words)

-- ---- the pages
-- n pages, from the first word of R on
abbrev pub page_marks : ℕ → List ℕ → List (List Mark)
page_marks zero R = []
page_marks (suc n) R = marks 0 (take frame_words R) ∷ page_marks n (drop frame_words R)

drop-drop : (i j : ℕ) (R : List ℕ) → drop j (drop i R) ≡ drop (i + j) R
drop-drop zero j R = ap (λ (x : ℕ). drop x R) {x = j} {y = 0 + j} (omega arith)
drop-drop (suc i) j [] = drop-nil j ∙ sym (drop-nil (suc i + j))
drop-drop (suc i) j (x ∷ R) = drop-drop i j R ∙ ap (λ (k : ℕ). drop k (x ∷ R)) {x = suc (i + j)} {y = suc i + j} (omega arith)

marks_at : (n p : ℕ) (R : List ℕ) → p < n → get_or (page_marks n R) p [] ≡ marks 0 (take frame_words (drop (frame_words * p) R))
marks_at zero p R l = absurd (omega arith)
marks_at (suc n) zero R l = refl
marks_at (suc n) (suc p) R l =
    marks_at n p (drop frame_words R) (omega arith)
    ∙ ap (λ (x : List ℕ). marks 0 (take frame_words x))
    (drop-drop frame_words (frame_words * p) R ∙ ap (λ (k : ℕ). drop k R) {x = frame_words + frame_words * p} {y = frame_words * suc p} (omega arith))

-- page p's words that are not zero: by the list of the pages; past the pages (nothing that is accepted asks there) by the memory
abbrev pub marks_of : Machine → List ℕ → List (List Mark) → ℕ → List Mark
marks_of b M ps p = pick (ltb p b.pages) (get_or ps p []) (marks 0 (words_of M (b.secure + p)))

abbrev pub all_marks : Machine → List ℕ → List (List Mark)
all_marks b M = page_marks b.pages (drop (frame_words * b.secure) M)

module _ (b : Machine) (M : List ℕ) (ps : List (List Mark)) (e : ps ≡ all_marks b M) where
  pub marks_of_lem : (p : ℕ) → marks_of b M ps p ≡ marks 0 (words_of M (b.secure + p))
  unfolding words_of
  marks_of_lem p = go (ltb p b.pages) refl
    where
      go : (t : Bool) → ltb p b.pages ≡ t
          → pick t (get_or ps p []) (marks 0 (take frame_words (drop (frame_words * (b.secure + p)) M)))
          ≡ marks 0 (take frame_words (drop (frame_words * (b.secure + p)) M))
      go true l =
          ap (λ (x : List (List Mark)). get_or x p []) e
          ∙ marks_at b.pages p (drop (frame_words * b.secure) M) (ltb-true p b.pages l)
          ∙ ap (λ (x : List ℕ). marks 0 (take frame_words x))
          (drop-drop (frame_words * b.secure) (frame_words * p) M
          ∙ ap (λ (k : ℕ). drop k M) {x = frame_words * b.secure + frame_words * p} {y = frame_words * (b.secure + p)} (omega arith))
      go false l = refl

  -- word k of page p
  pub held_word : (p k : ℕ) → k < frame_words → held (marks_of b M ps p) k ≡ frame M (b.secure + p) k
  held_word p k l =
      let zero_first : 0 + k ≡ k = omega arith in
      rw (marks_of_lem p) ((rw zero_first at (held_is 0 k (words_of M (b.secure + p)))) ∙ words_of_at M (b.secure + p) k l)
