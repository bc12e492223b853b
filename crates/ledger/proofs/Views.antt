-- What each writer does to the two views of a ledger, header and rec, and to its length. Assumes nothing.
use Rattle.std.proofs.Common.{◌≡◌, ℕ, zero, suc, ◌+◌, ◌-◌, ◌*◌, ◌/◌, ◌%◌, ◌<◌, ◌≤◌, ◌⊎◌, List, [], ◌∷◌, ◌++◌, length, get_or, replicate, sym, refl, ap, ◌∙◌, inl, inr, ⊎_elim, add-zero, arith, length-append, length-set, length-take, get_or-set_other, get_or-take, get_or-set_same, get_or-append-add}
use native.Mathlib.Decide.{dec_lt}
use lib.ListN.{length-replicate, get_or-append, get_or-eq_default, get_or-replicate}
use Rattle.words.specs.Words.{record_words, padded, bit_off, bit_on}
use Rattle.machine.specs.Machine.{header_words, map_words, map_start}
use Rattle.ledger.specs.Names.{running_word}
use Rattle.ledger.specs.Ledger.{header, rec, put_header, run, put, puts, anew, map_off, map_on}

-- ---- one word of the header
module _ (L : List ℕ) (k v : ℕ) where
  pub length-put_header : length (put_header L k v) ≡ length L
  unfolding put_header
  length-put_header = length-set L k v

  pub put_header_same : k < length L → header (put_header L k v) k ≡ v
  unfolding put_header header
  put_header_same l = get_or-set_same L k v 0 l

  pub put_header_other : (j : ℕ) → (j ≡ k → ⊥) → header (put_header L k v) j ≡ header L j
  unfolding put_header header
  put_header_other j n = get_or-set_other L k j v 0 n

  pub put_header_rec : k < header_words → (q j : ℕ) → rec (put_header L k v) q j ≡ rec L q j
  unfolding put_header rec
  put_header_rec l q j = get_or-set_other L k _ v 0 (λ e. omega arith)

module _ (L : List ℕ) (v : ℕ) where
  pub length_run : length (run L v) ≡ length L
  unfolding run
  length_run = length-put_header L running_word v

  pub run_same : header_words ≤ length L → header (run L v) running_word ≡ v
  unfolding run
  run_same l = put_header_same L running_word v (omega arith)

  pub run_other : (j : ℕ) → (j ≡ running_word → ⊥) → header (run L v) j ≡ header L j
  unfolding run
  run_other = put_header_other L running_word v

  pub run_rec : (q j : ℕ) → rec (run L v) q j ≡ rec L q j
  unfolding run
  run_rec = put_header_rec L running_word v (omega arith)

-- ---- one word of a record
module _ (L : List ℕ) (p k v : ℕ) where
  pub length-put : length (put L p k v) ≡ length L
  unfolding put
  length-put = length-set L _ v

  pub put_same : header_words + record_words * p + k < length L → rec (put L p k v) p k ≡ v
  unfolding put rec
  put_same l = get_or-set_same L _ v 0 l

  pub put_other : (q j : ℕ) → (record_words * q + j ≡ record_words * p + k → ⊥) → rec (put L p k v) q j ≡ rec L q j
  unfolding put rec
  put_other q j n = get_or-set_other L _ _ v 0 (λ e. n (omega arith))

  -- another word of the same page, and a word of another page
  pub put_word : (j : ℕ) → (j ≡ k → ⊥) → rec (put L p k v) p j ≡ rec L p j
  put_word j n = put_other p j (λ e. n (omega arith))

  pub put_page : k < record_words → (q j : ℕ) → (q ≡ p → ⊥) → j < record_words → rec (put L p k v) q j ≡ rec L q j
  put_page lk q j n lj = put_other q j (λ e. n (omega arith))

  pub put_header_lem : (j : ℕ) → j < header_words → header (put L p k v) j ≡ header L j
  unfolding put header
  put_header_lem j l = get_or-set_other L _ j v 0 (λ e. omega arith)

-- ---- a list of words
pub length-puts : (L : List ℕ) (p k : ℕ) (vs : List ℕ) → length (puts L p k vs) ≡ length L
unfolding puts
length-puts L p k [] = refl
length-puts L p k (v ∷ vs) = length-puts (put L p k v) p (k + 1) vs ∙ length-put L p k v

pub puts_header : (L : List ℕ) (p k : ℕ) (vs : List ℕ) (j : ℕ) → j < header_words → header (puts L p k vs) j ≡ header L j
unfolding puts
puts_header L p k [] j l = refl
puts_header L p k (v ∷ vs) j l = puts_header (put L p k v) p (k + 1) vs j l ∙ put_header_lem L p k v j l

-- a word that none of them is
pub puts_other : (L : List ℕ) (p k : ℕ) (vs : List ℕ) (q j : ℕ)
    → (record_words * q + j < record_words * p + k) ⊎ (record_words * p + k + length vs ≤ record_words * q + j)
    → rec (puts L p k vs) q j ≡ rec L q j
unfolding puts
puts_other L p k [] q j o = refl
puts_other L p k (v ∷ vs) q j o =
    puts_other (put L p k v) p (k + 1) vs q j (⊎_elim (λ l. inl (omega arith)) (λ l. inr (omega arith)) o)
    ∙ put_other L p k v q j (λ e. ⊎_elim (λ l. omega arith) (λ l. omega arith) o)

-- a word of another page, where they stay within the record
pub puts_page : (L : List ℕ) (p k : ℕ) (vs : List ℕ) → k + length vs ≤ record_words
    → (q j : ℕ) → (q ≡ p → ⊥) → j < record_words → rec (puts L p k vs) q j ≡ rec L q j
puts_page L p k vs f q j n l = puts_other L p k vs q j (go (dec_lt q p))
  where
    go : Dec (q < p) → (record_words * q + j < record_words * p + k) ⊎ (record_words * p + k + length vs ≤ record_words * q + j)
    go (yes h) = inl (omega arith)
    go (no h) = inr (omega arith)

-- a word of the page before or after them
pub puts_word : (L : List ℕ) (p k : ℕ) (vs : List ℕ) (j : ℕ) → (j < k) ⊎ (k + length vs ≤ j) → rec (puts L p k vs) p j ≡ rec L p j
puts_word L p k vs j o = puts_other L p k vs p j (⊎_elim (λ l. inl (omega arith)) (λ l. inr (omega arith)) o)

pub puts_same : (L : List ℕ) (p k : ℕ) (vs : List ℕ) (i : ℕ) → i < length vs → header_words + record_words * p + k + length vs ≤ length L
    → rec (puts L p k vs) p (k + i) ≡ get_or vs i 0
unfolding puts
puts_same L p k [] i l f = absurd (omega arith)
puts_same L p k (v ∷ vs) zero l f =
    puts_other (put L p k v) p (k + 1) vs p (k + 0) (inl (omega arith)) ∙ rw (add-zero k) (put_same L p k v (omega arith))
puts_same L p k (v ∷ vs) (suc i) l f =
    ap (λ (x : ℕ). rec (puts (put L p k v) p (k + 1) vs) p x) {x = k + suc i} {y = k + 1 + i} (omega arith)
    ∙ puts_same (put L p k v) p (k + 1) vs i (omega arith) (rw (length-put L p k v) (omega arith))

-- ---- a whole record
pub length-padded : (vs : List ℕ) → length (padded vs) ≡ record_words
unfolding padded
length-padded vs = simp (length-take, length-append, length-replicate) (omega arith)

pub padded_at : (vs : List ℕ) (j : ℕ) → j < record_words → get_or (padded vs) j 0 ≡ get_or vs j 0
unfolding padded
padded_at vs j l = get_or-take record_words (vs ++ replicate record_words 0) j 0 l ∙ go (dec_lt j (length vs))
  where
    go : Dec (j < length vs) → get_or (vs ++ replicate record_words 0) j 0 ≡ get_or vs j 0
    go (yes h) = get_or-append vs (replicate record_words 0) 0 j h
    go (no n) =
        let e : length vs + (j - length vs) ≡ j = omega arith in
        ap (λ (x : ℕ). get_or (vs ++ replicate record_words 0) x 0) (sym e)
        ∙ get_or-append-add vs (replicate record_words 0) (j - length vs) 0
        ∙ get_or-replicate record_words (j - length vs) 0 0 (omega arith)
        ∙ sym (get_or-eq_default vs 0 (omega arith))

module _ (L : List ℕ) (p : ℕ) (vs : List ℕ) where
  pub length-anew : length (anew L p vs) ≡ length L
  unfolding anew
  length-anew = length-puts L p 0 (padded vs)

  pub anew_header : (j : ℕ) → j < header_words → header (anew L p vs) j ≡ header L j
  unfolding anew
  anew_header = puts_header L p 0 (padded vs)

  pub anew_same : header_words + record_words * p + record_words ≤ length L → (j : ℕ) → j < record_words → rec (anew L p vs) p j ≡ get_or vs j 0
  unfolding anew
  anew_same f j l =
      ap (λ (x : ℕ). rec (puts L p 0 (padded vs)) p x) {x = j} {y = 0 + j} (omega arith)
      ∙ puts_same L p 0 (padded vs) j (rw length-padded l) (rw length-padded (omega arith))
      ∙ padded_at vs j l

  pub anew_other : (q j : ℕ) → (q ≡ p → ⊥) → j < record_words → rec (anew L p vs) q j ≡ rec L q j
  unfolding anew
  anew_other = puts_page L p 0 (padded vs) (rw length-padded (omega arith))

-- ---- the free map: page p's word of it gets a bit less, or one more
module _ (L : List ℕ) (p : ℕ) where
  pub length-map_off : length (map_off L p) ≡ length L
  unfolding map_off
  length-map_off = length-set L _ _

  pub length-map_on : length (map_on L p) ≡ length L
  unfolding map_on
  length-map_on = length-set L _ _

  pub map_off_other : (k : ℕ) → (k ≡ map_start + p / 32 → ⊥) → header (map_off L p) k ≡ header L k
  unfolding map_off put_header
  map_off_other = put_header_other L _ _

  pub map_on_other : (k : ℕ) → (k ≡ map_start + p / 32 → ⊥) → header (map_on L p) k ≡ header L k
  unfolding map_on put_header
  map_on_other = put_header_other L _ _

  module _ (below : p < 32 * map_words) where
    pub map_off_rec : (q j : ℕ) → rec (map_off L p) q j ≡ rec L q j
    unfolding map_off put_header
    map_off_rec = put_header_rec L _ _ (omega arith)

    pub map_on_rec : (q j : ℕ) → rec (map_on L p) q j ≡ rec L q j
    unfolding map_on put_header
    map_on_rec = put_header_rec L _ _ (omega arith)

    pub map_off_here : header_words ≤ length L → header (map_off L p) (map_start + p / 32) ≡ bit_off (header L (map_start + p / 32)) (p % 32)
    unfolding map_off put_header
    map_off_here f = put_header_same L _ _ (omega arith)

    pub map_on_here : header_words ≤ length L → header (map_on L p) (map_start + p / 32) ≡ bit_on (header L (map_start + p / 32)) (p % 32)
    unfolding map_on put_header
    map_on_here f = put_header_same L _ _ (omega arith)
