-- What each effect does to the two views of a ledger, and to its length. Assumes nothing.
use Rattle.std.proofs.Common.{◌≡◌, ℕ, zero, suc, ◌+◌, ◌*◌, ◌/◌, ◌%◌, ◌^◌, ◌<◌, ◌≤◌, ◌⊎◌, List, [], length, get_or, sym, refl, ap, ◌∙◌, inl, inr, ⊎_elim, arith, ext_get_or}
use Rattle.words.specs.Words.{record_words, bit_off, bit_on}
use Rattle.machine.specs.Machine.{header_words, map_words, map_start}
use Rattle.ledger.specs.Ledger.{header, rec, put, anew, occupy, vacate, gain, lose, eight, put_hash, measure}
use Rattle.ledger.proofs.Views.{length-put, put_same, put_other, put_word, put_page, put_header_lem, length-puts, puts_same, puts_word, puts_page, puts_header, length-anew, anew_same, anew_other, anew_header, length-map_off, length-map_on, map_off_rec, map_on_rec, map_off_here, map_on_here, map_off_other, map_on_other}

-- ---- a free page p becomes a page with a record
module _ (L : List ℕ) (p : ℕ) (vs : List ℕ) where
  pub length-occupy : length (occupy L p vs) ≡ length L
  unfolding occupy
  length-occupy = length-map_off (anew L p vs) p ∙ length-anew L p vs

  pub occupy_header : (k : ℕ) → k < header_words → (k ≡ map_start + p / 32 → ⊥) → header (occupy L p vs) k ≡ header L k
  unfolding occupy
  occupy_header k l n = map_off_other (anew L p vs) p k n ∙ anew_header L p vs k l

  module _ (below : p < 32 * map_words) where
    pub occupy_map : header_words ≤ length L → header (occupy L p vs) (map_start + p / 32) ≡ bit_off (header L (map_start + p / 32)) (p % 32)
    unfolding occupy
    occupy_map f =
        map_off_here (anew L p vs) p below (rw length-anew f)
        ∙ ap (λ (x : ℕ). bit_off x (p % 32)) (anew_header L p vs (map_start + p / 32) (omega arith))

    pub occupy_same : header_words + record_words * p + record_words ≤ length L → (j : ℕ) → j < record_words → rec (occupy L p vs) p j ≡ get_or vs j 0
    unfolding occupy
    occupy_same f j l = map_off_rec (anew L p vs) p below p j ∙ anew_same L p vs f j l

    pub occupy_other : (q j : ℕ) → (q ≡ p → ⊥) → j < record_words → rec (occupy L p vs) q j ≡ rec L q j
    unfolding occupy
    occupy_other q j n l = map_off_rec (anew L p vs) p below q j ∙ anew_other L p vs q j n l

-- ---- page p becomes free
module _ (L : List ℕ) (p : ℕ) where
  pub length-vacate : length (vacate L p) ≡ length L
  unfolding vacate
  length-vacate = length-map_on (anew L p []) p ∙ length-anew L p []

  pub vacate_header : (k : ℕ) → k < header_words → (k ≡ map_start + p / 32 → ⊥) → header (vacate L p) k ≡ header L k
  unfolding vacate
  vacate_header k l n = map_on_other (anew L p []) p k n ∙ anew_header L p [] k l

  module _ (below : p < 32 * map_words) where
    pub vacate_map : header_words ≤ length L → header (vacate L p) (map_start + p / 32) ≡ bit_on (header L (map_start + p / 32)) (p % 32)
    unfolding vacate
    vacate_map f =
        map_on_here (anew L p []) p below (rw length-anew f)
        ∙ ap (λ (x : ℕ). bit_on x (p % 32)) (anew_header L p [] (map_start + p / 32) (omega arith))

    pub vacate_same : header_words + record_words * p + record_words ≤ length L → (j : ℕ) → j < record_words → rec (vacate L p) p j ≡ 0
    unfolding vacate
    vacate_same f j l = map_on_rec (anew L p []) p below p j ∙ anew_same L p [] f j l

    pub vacate_other : (q j : ℕ) → (q ≡ p → ⊥) → j < record_words → rec (vacate L p) q j ≡ rec L q j
    unfolding vacate
    vacate_other q j n l = map_on_rec (anew L p []) p below q j ∙ anew_other L p [] q j n l

-- ---- space a owns one page more, one page less: word 4 of its record, and nothing else
module _ (L : List ℕ) (a : ℕ) where
  pub length-gain : length (gain L a) ≡ length L
  unfolding gain
  length-gain = length-put L a 4 _

  pub length-lose : length (lose L a) ≡ length L
  unfolding lose
  length-lose = length-put L a 4 _

  pub gain_header : (j : ℕ) → j < header_words → header (gain L a) j ≡ header L j
  unfolding gain
  gain_header = put_header_lem L a 4 _

  pub lose_header : (j : ℕ) → j < header_words → header (lose L a) j ≡ header L j
  unfolding lose
  lose_header = put_header_lem L a 4 _

  pub gain_count : header_words + record_words * a + 4 < length L → rec (gain L a) a 4 ≡ (rec L a 4 + 1) % 2 ^ 32
  unfolding gain
  gain_count = put_same L a 4 _

  pub lose_count : header_words + record_words * a + 4 < length L → rec (lose L a) a 4 ≡ (rec L a 4 + 4294967295) % 2 ^ 32
  unfolding lose
  lose_count = put_same L a 4 _

  pub gain_other : (q j : ℕ) → (record_words * q + j ≡ record_words * a + 4 → ⊥) → rec (gain L a) q j ≡ rec L q j
  unfolding gain
  gain_other = put_other L a 4 _

  pub lose_other : (q j : ℕ) → (record_words * q + j ≡ record_words * a + 4 → ⊥) → rec (lose L a) q j ≡ rec L q j
  unfolding lose
  lose_other = put_other L a 4 _

-- ---- the hash of space a, and its count of blocks
pub length-eight : (h : List ℕ) → length (eight h) ≡ 8
unfolding eight
length-eight h = refl

pub eight_at : (h : List ℕ) (i : ℕ) → i < 8 → get_or (eight h) i 0 ≡ get_or h i 0
unfolding eight
eight_at h zero l = refl
eight_at h (suc zero) l = refl
eight_at h (suc (suc zero)) l = refl
eight_at h (suc (suc (suc zero))) l = refl
eight_at h (suc (suc (suc (suc zero)))) l = refl
eight_at h (suc (suc (suc (suc (suc zero))))) l = refl
eight_at h (suc (suc (suc (suc (suc (suc zero)))))) l = refl
eight_at h (suc (suc (suc (suc (suc (suc (suc zero))))))) l = refl
eight_at h (suc (suc (suc (suc (suc (suc (suc (suc i)))))))) l = absurd (omega arith)

pub eight_same : (h : List ℕ) → length h ≡ 8 → eight h ≡ h
eight_same h e = ext_get_or 0 (eight h) h (length-eight h ∙ sym e) (λ i l. eight_at h i (rw length-eight at l))

module _ (L : List ℕ) (a : ℕ) (h : List ℕ) where
  pub length-put_hash : length (put_hash L a h) ≡ length L
  unfolding put_hash
  length-put_hash = length-puts L a 6 (eight h)

  pub put_hash_header : (j : ℕ) → j < header_words → header (put_hash L a h) j ≡ header L j
  unfolding put_hash
  put_hash_header = puts_header L a 6 (eight h)

  pub put_hash_same : header_words + record_words * a + record_words ≤ length L → (i : ℕ) → i < 8 → rec (put_hash L a h) a (6 + i) ≡ get_or h i 0
  unfolding put_hash
  put_hash_same f i l = puts_same L a 6 (eight h) i (rw length-eight l) (rw length-eight (omega arith)) ∙ eight_at h i l

  -- a word of the record before or after the hash, and another page's
  pub put_hash_word : (j : ℕ) → (j < 6) ⊎ (14 ≤ j) → rec (put_hash L a h) a j ≡ rec L a j
  unfolding put_hash
  put_hash_word j o = puts_word L a 6 (eight h) j (rw length-eight o)

  pub put_hash_page : (q j : ℕ) → (q ≡ a → ⊥) → j < record_words → rec (put_hash L a h) q j ≡ rec L q j
  unfolding put_hash
  put_hash_page = puts_page L a 6 (eight h) (rw length-eight (omega arith))

module _ (L : List ℕ) (a k : ℕ) (h : List ℕ) where
  abbrev counted : List ℕ
  counted = put L a 5 ((rec L a 5 + k) % 2 ^ 32)

  pub length-measure : length (measure L a k h) ≡ length L
  unfolding measure
  length-measure = length-put_hash counted a h ∙ length-put L a 5 _

  pub measure_header : (j : ℕ) → j < header_words → header (measure L a k h) j ≡ header L j
  unfolding measure
  measure_header j l = put_hash_header counted a h j l ∙ put_header_lem L a 5 _ j l

  pub measure_blocks : header_words + record_words * a + record_words ≤ length L → rec (measure L a k h) a 5 ≡ (rec L a 5 + k) % 2 ^ 32
  unfolding measure
  measure_blocks f = put_hash_word counted a h 5 (inl (omega arith)) ∙ put_same L a 5 _ (omega arith)

  pub measure_hash : header_words + record_words * a + record_words ≤ length L → (i : ℕ) → i < 8 → rec (measure L a k h) a (6 + i) ≡ get_or h i 0
  unfolding measure
  measure_hash f = put_hash_same counted a h (rw length-put f)

  pub measure_word : (j : ℕ) → (j < 5) ⊎ (14 ≤ j) → rec (measure L a k h) a j ≡ rec L a j
  unfolding measure
  measure_word j o =
      put_hash_word counted a h j (⊎_elim (λ l. inl (omega arith)) inr o)
      ∙ put_word L a 5 _ j (λ e. ⊎_elim (λ l. omega arith) (λ l. omega arith) o)

  pub measure_page : (q j : ℕ) → (q ≡ a → ⊥) → j < record_words → rec (measure L a k h) q j ≡ rec L q j
  unfolding measure
  measure_page q j n l = put_hash_page counted a h q j n l ∙ put_page L a 5 _ (omega arith) q j n l
