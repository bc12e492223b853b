-- A ledger of n pages whose free map is exact, and the effects that keep it so. Assumes nothing.
use Prim.Native.Nat.{ℕ, ◌+◌, ◌*◌, ◌≤◌, ◌<◌}
use mathlib.Core.Path.{◌≡◌, sym, ◌∙◌}
use mathlib.Core.List.{List}
use mathlib.Core.Logic.{⊎_elim}
use native.Mathlib.Omega.{arith}
use lib.ListN.{length, get_or}
use Rattle.words.specs.Words.{record_words}
use Rattle.words.specs.Maps.{bit_of, word_of, Fit, WithBit}
use Rattle.words.proofs.Cases.{same_or, lt_or_ge}
use Rattle.words.proofs.Maps.{map_facts}
use Rattle.machine.specs.Machine.{most_pages, header_words, map_words, map_start}
use Rattle.ledger.specs.Names.{free}
use Rattle.ledger.specs.Ledger.{header, rec, occupy, vacate}
use Rattle.ledger.proofs.Effects.{length-occupy, occupy_header, occupy_map, occupy_same, occupy_other, length-vacate, vacate_header, vacate_map, vacate_same, vacate_other}
use Rattle.ledger.proofs.Ones.{map_at}
use Rattle.accept.specs.Accept.{Words, free_flag, map_word}
use Rattle.accept.proofs.FreeMap.{past_pages, in_use, is_free, free_le}

pub record Exact (n : ℕ) (L : List ℕ) : Type 0 where
  pub few : n ≤ most_pages
  pub size : length L ≡ header_words + record_words * n
  pub map : (j : ℕ) → j < map_words → header L (map_start + j) ≡ map_word n (rec L) j

-- its words are words, and a page's bit says whether it is free
pub exact_says : {n : ℕ} {L : List ℕ} → Exact n L → Fit map_words (map_at L) × ((p : ℕ) → p < 32 * map_words → bit_of (map_at L) p ≡ free_flag n (rec L) p)
unfolding map_word word_of
exact_says {n} {L} ex = (map_facts map_words).exact_bits (map_at L) (free_flag n (rec L)) (free_le n (rec L)) ex.map

-- what is free goes by the types of the pages below n
free_same : (n : ℕ) (w w' : Words) (q : ℕ) → (q < n → w' q 0 ≡ w q 0) → free_flag n w q ≡ free_flag n w' q
unfolding free_flag
free_same n w w' q e =
    ⊎_elim (λ l. rw (e l)) (λ l. sym (past_pages n w q l) ∙ past_pages n w' q l) (lt_or_ge q n)

module _ {n : ℕ} {L : List ℕ} (ex : Exact n L) (p : ℕ) (pl : p < n) where
  -- page p alone changes its type, and its bit alone of the map follows
  pub exact_but : {L' : List ℕ} {v : ℕ} → length L' ≡ length L → WithBit map_words (map_at L) p v (map_at L') → v ≡ free_flag n (rec L') p
      → ((q : ℕ) → q < n → (q ≡ p → ⊥) → rec L' q 0 ≡ rec L q 0) → Exact n L'
  unfolding map_word word_of
  exact_but {L'} size x is others =
      record {
        few = ex.few;
        size = size ∙ ex.size;
        map = (map_facts map_words).exact_words (map_at L') (free_flag n (rec L')) x.fit
            (λ q l.
            ⊎_elim (λ e. rw e (x.here ∙ is))
            (λ ne. x.others q l ne ∙ (exact_says ex).1 q l ∙ free_same n (rec L) (rec L') q (λ ql. others q ql ne))
            (same_or q p));
      }

  few : p < 32 * map_words
  few = omega (arith, ex.few)

  fits : header_words + record_words * p + record_words ≤ length L
  fits = omega (arith, ex.size)

  pub occupy_exact : (vs : List ℕ) → rec L p 0 ≡ free → (get_or vs 0 0 ≡ free → ⊥) → Exact n (occupy L p vs)
  occupy_exact vs was used =
      exact_but (length-occupy L p vs)
      ((map_facts map_words).cleared (map_at L) (map_at (occupy L p vs)) p (exact_says ex).0 few
      (record {
        here = occupy_map L p vs few (omega (arith, ex.size));
        others = λ i l ne. occupy_header L p vs (map_start + i) (omega arith) (λ e. ne (omega arith));
      }))
      (in_use n (rec (occupy L p vs)) p pl (λ z. used (sym (occupy_same L p vs few fits 0 (omega arith)) ∙ z)))
      (λ q ql ne. occupy_other L p vs few q 0 ne (omega arith))

  pub vacate_exact : (rec L p 0 ≡ free → ⊥) → Exact n (vacate L p)
  vacate_exact used =
      exact_but (length-vacate L p)
      ((map_facts map_words).set (map_at L) (map_at (vacate L p)) p (exact_says ex).0 few
      (record {
        here = vacate_map L p few (omega (arith, ex.size));
        others = λ i l ne. vacate_header L p (map_start + i) (omega arith) (λ e. ne (omega arith));
      }))
      (is_free n (rec (vacate L p)) p pl (vacate_same L p few fits 0 (omega arith)))
      (λ q ql ne. vacate_other L p few q 0 ne (omega arith))
