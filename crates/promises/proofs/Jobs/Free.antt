-- What call 13 is for: the number of pages of type free and the least of them, counted from the records. Assumes nothing.
use Prim.Native.Nat.{ℕ, ◌*◌, ◌≤◌, ◌<◌}
use mathlib.Core.Path.{◌≡◌, refl, sym, ◌∙◌}
use mathlib.Core.List.{List, [], ◌∷◌}
use mathlib.Core.Logic.{⊎_elim}
use native.Mathlib.Omega.{arith}
use borrow.Author.Tests.{lt-ltb, eq-eqb, ne_eqb}
use Rattle.words.specs.Words.{word_bits, sum_below, least_below}
use Rattle.words.proofs.Sums.{sum_ext, sum_zero, sum_cut, sum_ge, least_ext, least_below_lem, least_at}
use Rattle.words.proofs.Cases.{same_or, lt_or_ge}
use Rattle.machine.specs.declared.Machine.{Machine}
use Rattle.machine.specs.Machine.{map_words}
use Rattle.ledger.specs.Names.{free}
use Rattle.ledger.specs.Ledger.{rec, map_bit, type_of}
use Rattle.accept.specs.Accept.{free_flag, Accepted}
use Rattle.accept.proofs.FreeMap.{past_pages, in_use, is_free}
use Rattle.system.specs.Calls.{free_count, lowest_free, free_pages}
use Rattle.calls.specs.Table.{calls, lookup}
use Rattle.kept.proofs.Facts.Bridge.{bit_says}
use Rattle.promises.specs.Jobs.{free_ones, FreeCounted, FreePagesIsFor}
use Rattle.promises.proofs.Opened.{opened}

-- where the sum is not 0, it is below n
least_found : (n : ℕ) (f : ℕ → ℕ) → (sum_below n f ≡ 0 → ⊥) → least_below n f < n
least_found n f some =
    ⊎_elim (λ l. l)
    (λ l. absurd (some (sum_zero n f (λ q m. least_below_lem n f q (omega arith)))))
    (lt_or_ge (least_below n f) n)

-- ---- a page's bit says whether it is free
abbrev places : ℕ
places = word_bits * map_words

module _ {b : Machine} {M L : List ℕ} (ok : Accepted b M L) where
  abbrev one : ℕ → ℕ
  one = free_flag b.pages (rec L)

  one_is : (p : ℕ) → p < b.pages → one p ≡ free_ones L p
  unfolding free_flag
  one_is p l = rw (lt-ltb p b.pages l)

  -- a page that is not counted 0 is below n and free
  counted_one : (p : ℕ) → (one p ≡ 0 → ⊥) → (p < b.pages) × (type_of L p ≡ free)
  counted_one p n =
      ⊎_elim
      (λ l. (l, ⊎_elim (λ e. e) (λ u. absurd (n (sym (in_use b.pages (rec L) p l u)))) (same_or (type_of L p) free)))
      (λ l. absurd (n (sym (past_pages b.pages (rec L) p l)))) (lt_or_ge p b.pages)

  pub count_is : free_count L ≡ sum_below b.pages (free_ones L)
  unfolding free_count
  count_is =
      let n = b.pages in
      sum_ext places (map_bit L) one (bit_says ok)
      ∙ sum_cut n places one ok.lent.fits.pages_high (λ p l _. sym (past_pages n (rec L) p l))
      ∙ sum_ext n one (free_ones L) one_is

  -- the answer's second number is x: none below it is free, and it is n or free
  counts_by : (x : ℕ) → lowest_free b L ≡ x → x ≤ b.pages → (x < b.pages → type_of L x ≡ free) → ((q : ℕ) → q < x → type_of L q ≡ free → ⊥)
      → FreeCounted b L (0 ∷ free_count L ∷ lowest_free b L ∷ [])
  counts_by x e most here below = record { least = x; answer = rw (count_is, e) refl; most = most; is_free = here; none_below = below }

  none : free_count L ≡ 0 → FreeCounted b L (0 ∷ free_count L ∷ lowest_free b L ∷ [])
  unfolding lowest_free
  none e =
      counts_by b.pages (rw (eq-eqb (free_count L) 0 e)) (omega arith) (λ l. absurd (omega arith))
      (λ q l z. omega (arith, count_is, sum_ge b.pages q (free_ones L) l, one_is q l, is_free b.pages (rec L) q l z))

  some : (free_count L ≡ 0 → ⊥) → FreeCounted b L (0 ∷ free_count L ∷ lowest_free b L ∷ [])
  unfolding lowest_free free_count
  some n =
      let x = least_below places one in
      let found : x < places = least_found places one (λ z. n (sum_ext places (map_bit L) one (bit_says ok) ∙ z)) in
      let here = counted_one x (least_at places one found) in
      counts_by x (rw (ne_eqb (free_count L) 0 n) (least_ext places (map_bit L) one (bit_says ok))) (omega arith) (λ _. here.1)
      (λ q l z. omega (arith, is_free b.pages (rec L) q (omega arith) z, least_below_lem places one q l))

  counts : FreeCounted b L (0 ∷ free_count L ∷ lowest_free b L ∷ [])
  counts = ⊎_elim none some (same_or (free_count L) 0)

pub free_pages_is_for : FreePagesIsFor
unfolding lookup calls free_pages
free_pages_is_for b M L W ok did = rw (opened refl did) (counts ok)
