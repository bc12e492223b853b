-- A free page p becomes a page of the space a, and a is charged with it: what calls 3 to 6 do to the ledger. Assumes nothing.
use Prim.Native.Nat.{ℕ, ◌+◌, ◌*◌, ◌^◌, ◌≤◌, ◌<◌}
use mathlib.Core.Path.{◌≡◌, refl, sym, ap, ◌∙◌}
use mathlib.Core.List.{List, ◌∷◌}
use mathlib.Core.Logic.{◌⊎◌, ⊎_elim, inl, inr}
use native.Mathlib.Omega.{arith}
use lib.ListN.{length, get_or}
use Rattle.words.specs.Words.{record_words}
use Rattle.machine.specs.declared.Machine.{Machine}
use Rattle.machine.specs.Machine.{header_words, map_words}
use Rattle.ledger.specs.Names.{free, space, thread, building}
use Rattle.ledger.specs.Ledger.{header, rec, occupy, gain, measure}
use Rattle.ledger.proofs.Effects.{length-occupy, occupy_header, occupy_same, occupy_other, gain_count, gain_other, length-measure, measure_header, measure_blocks, measure_word, measure_page}
use Rattle.accept.specs.Accept.{Zeros, Layout, counted, measured, HeaderOk, Accepted}
use Rattle.kept.proofs.Facts.Sums.{counted_high}
use Rattle.kept.proofs.Facts.Leaves.{Linked, apart}
use Rattle.kept.proofs.Layers.Turn.{Turns, tables_plain, runs_turn, turn_kept}
use Rattle.kept.proofs.Facts.Exact.{occupy_exact}
use Rattle.kept.proofs.Facts.Bridge.{exact, bit_in, record_in, is_space, count_small, blocks_few, accepted, header_kept}
use Rattle.kept.proofs.Facts.Wrote.{Wrote, wrote_gain, wrote_then, wrote_exact}

-- space a of L has in L' one page more and k blocks more, and any hash; all else is as it was
pub record Charged (L L' : List ℕ) (a k : ℕ) : Type 0 where
  pub wrote : Wrote L L' a
  pub count : rec L' a 4 ≡ rec L a 4 + 1
  pub blocks : rec L' a 5 ≡ rec L a 5 + k
  pub word : (j : ℕ) → (j < 4) ⊎ (14 ≤ j) → rec L' a j ≡ rec L a j

gain_charged : {L : List ℕ} {a : ℕ} → header_words + record_words * a + record_words ≤ length L → rec L a 4 ≤ 1024 → Charged L (gain L a) a 0
gain_charged {L} {a} fits small =
    record {
      wrote = wrote_gain L a;
      count = gain_count L a (omega arith) ∙ omega arith;
      blocks = gain_other L a a 5 (λ e. omega arith) ∙ omega arith;
      word = λ j o. gain_other L a a j (λ e. ⊎_elim (λ l. omega arith) (λ l. omega arith) o);
    }

measure_charged : {L L' : List ℕ} {a : ℕ} (k : ℕ) (hash : List ℕ) → header_words + record_words * a + record_words ≤ length L
    → rec L a 5 + k < 2 ^ 32 → Charged L L' a 0 → Charged L (measure L' a k hash) a k
measure_charged {L} {L'} {a} k hash fits small x =
    record {
      wrote =
          wrote_then x.wrote
          (record { size = length-measure L' a k hash; head = measure_header L' a k hash; others = λ q n j l. measure_page L' a k hash q j n l });
      count = measure_word L' a k hash 4 (inl (omega arith)) ∙ x.count;
      blocks = measure_blocks L' a k hash (rw x.wrote.size fits) ∙ omega (arith, x.blocks);
      word = λ j o. measure_word L' a k hash j (⊎_elim (λ l. inl (omega arith)) inr o) ∙ x.word j o;
    }

-- what calls 3 to 6 and 35 to 37 leave of the ledger
pub record Allocated (b : Machine) (L L' : List ℕ) (a p : ℕ) (vs : List ℕ) : Type 0 where
  pub size : length L' ≡ length L
  pub turns : Turns b (rec L) (rec L') a p
  pub new : (k : ℕ) → k < record_words → rec L' p k ≡ get_or vs k 0
  pub header : HeaderOk b (header L') (rec L')

module _ {b : Machine} {M L : List ℕ} (ok : Accepted b M L) {a p : ℕ} (al : a < b.pages) (type : rec L a 0 ≡ space)
    (pl : p < b.pages) (was : rec L p 0 ≡ free) (t : ℕ) (vs : List ℕ) where
  p_below : p < 32 * map_words
  p_below = bit_in ok p pl

  others : (q k : ℕ) → (q ≡ p → ⊥) → k < record_words → rec (occupy L p (t ∷ a ∷ vs)) q k ≡ rec L q k
  others = occupy_other L p (t ∷ a ∷ vs) p_below

  a_not_p : a ≡ p → ⊥
  a_not_p = apart (rec L) type was (λ z. omega arith)

  fits_on : header_words + record_words * a + record_words ≤ length (occupy L p (t ∷ a ∷ vs))
  fits_on = rw (length-occupy L p (t ∷ a ∷ vs)) (record_in ok a al)

  pub gained : Charged (occupy L p (t ∷ a ∷ vs)) (gain (occupy L p (t ∷ a ∷ vs)) a) a 0
  gained = gain_charged fits_on (omega (arith, others a 4 a_not_p (omega arith), count_small ok al type))

  pub measured_on : (k : ℕ) (hash : List ℕ) → k ≤ 65
      → Charged (occupy L p (t ∷ a ∷ vs)) (measure (gain (occupy L p (t ∷ a ∷ vs)) a) a k hash) a k
  measured_on k hash l =
      measure_charged k hash fits_on (omega (arith, others a 5 a_not_p (omega arith), blocks_few ok al type, ok.lent.fits.pages_high)) gained

  pub allocated : {L' : List ℕ} → space < t → (rec L a 3 ≡ building) ⊎ (measured t ≡ 0)
      → Charged (occupy L p (t ∷ a ∷ vs)) L' a (measured t) → Allocated b L L' a p (t ∷ a ∷ vs)
  allocated {L'} high may x = record { size = x.wrote.size ∙ length-occupy L p (t ∷ a ∷ vs); turns = turns; new = new; header = head }
    where
      new : (k : ℕ) → k < record_words → rec L' p k ≡ get_or (t ∷ a ∷ vs) k 0
      new k l = x.wrote.others p (λ e. a_not_p (sym e)) k l ∙ occupy_same L p (t ∷ a ∷ vs) p_below (record_in ok p pl) k l

      turns : Turns b (rec L) (rec L') a p
      turns =
          let c₀ : counted (rec L p 0) ≡ 0 = ap counted was in
          let c₁ : counted (rec L' p 0) ≡ 1 = ap counted (new 0 (omega arith)) ∙ counted_high t high in
          let m₀ : measured (rec L p 0) ≡ 0 = ap measured was in
          let m₁ : measured (rec L' p 0) ≡ measured t = ap measured (new 0 (omega arith)) in
          let e₄ = x.count in
          let e₅ = x.blocks in
          let o₄ = others a 4 a_not_p (omega arith) in
          let o₅ = others a 5 a_not_p (omega arith) in
          record {
            below = pl;
            was = inl was;
            now = inr (new 1 (omega arith));
            low = λ k l. x.word k (inl l) ∙ others a k a_not_p (omega arith);
            count = omega arith;
            blocks = λ _. omega arith;
            room = λ n. ⊎_elim (λ z. absurd (n z)) (λ z. omega arith) may;
            high = λ k lo hi. x.word k (inr lo) ∙ others a k a_not_p hi;
            others = λ q l na np k kl. x.wrote.others q na k kl ∙ others q k np kl;
          }

      head : HeaderOk b (header L') (rec L')
      head =
          let e₀ = others a 0 a_not_p (omega arith) in
          let e₀' = x.word 0 (inl (omega arith)) in
          header_kept ok
          (wrote_exact (occupy_exact (exact ok) p pl (t ∷ a ∷ vs) was (λ z. omega arith)) x.wrote al (λ z. omega arith) (λ z. omega arith))
          (x.wrote.head 0 (omega arith) ∙ occupy_header L p (t ∷ a ∷ vs) 0 (omega arith) (λ e. omega arith))
          (λ k lo hi. x.wrote.head k hi ∙ occupy_header L p (t ∷ a ∷ vs) k hi (λ e. omega (arith, p_below)))
          (λ u. runs_turn (is_space ok al type) turns ok.rules (λ z. omega arith) (λ z. omega arith))

  -- where the new page is no table and no data page, and no memory changes
  pub alloc_plain : {L' : List ℕ} → Allocated b L L' a p (t ∷ a ∷ vs) → (Linked t → ⊥)
      → (rec L' p 0 ≡ t → Layout b.pages p (rec L' p)) → (t ≡ thread → Zeros (rec L' p) 3 21) → Accepted b M L'
  alloc_plain {L'} x plain layout calm =
      let sp = is_space ok al type in
      let e = x.new 0 (omega arith) in
      accepted ok refl x.size
      (turn_kept sp x.turns ok.rules (λ z. omega arith) (layout e) (λ z. calm (sym e ∙ z))
      (λ _. (ok.rules.pages p pl).blank (inl (omega arith)))
      (λ q l n. inl (λ k kl. refl))
      (λ n.
      tables_plain sp x.turns (λ l. omega arith) (λ l. plain (omega arith)) (λ q l np k kl. refl) ok.rules.pages
      ((ok.rules.spaces a al type).tables n))
      x.header)
