-- A ledger that differs in the record of one page alone, and the effects that leave one such. Assumes nothing.
use Prim.Native.Nat.{ℕ, ◌+◌, ◌/◌, ◌≤◌, ◌<◌}
use mathlib.Core.Path.{◌≡◌, sym, ◌∙◌}
use mathlib.Core.List.{List}
use native.Mathlib.Omega.{arith}
use lib.ListN.{length}
use Rattle.words.specs.Words.{record_words}
use Rattle.machine.specs.declared.Machine.{Machine}
use Rattle.machine.specs.Machine.{header_words, map_start}
use Rattle.ledger.specs.Names.{free}
use Rattle.ledger.specs.Ledger.{header, rec, put, puts, anew, gain, lose, put_hash}
use Rattle.ledger.proofs.Views.{length-put, put_page, put_header_lem, length-puts, puts_page, puts_header, length-anew, anew_other, anew_header}
use Rattle.ledger.proofs.Effects.{length-gain, gain_header, gain_other, length-lose, lose_header, lose_other, length-put_hash, put_hash_page, put_hash_header}
use Rattle.accept.specs.Accept.{Runs, HeaderOk, Accepted}
use Rattle.accept.proofs.FreeMap.{in_use}
use Rattle.kept.proofs.Facts.Exact.{Exact, exact_says, exact_but}
use Rattle.kept.proofs.Facts.Bridge.{exact, header_kept}

pub record Wrote (L L' : List ℕ) (p : ℕ) : Type 0 where
  pub size : length L' ≡ length L
  pub head : (k : ℕ) → k < header_words → header L' k ≡ header L k
  pub others : (q : ℕ) → (q ≡ p → ⊥) → (k : ℕ) → k < record_words → rec L' q k ≡ rec L q k

pub wrote_put : (L : List ℕ) (p k v : ℕ) → k < record_words → Wrote L (put L p k v) p
wrote_put L p k v l = record { size = length-put L p k v; head = put_header_lem L p k v; others = λ q n j jl. put_page L p k v l q j n jl }

pub wrote_puts : (L : List ℕ) (p k : ℕ) (vs : List ℕ) → k + length vs ≤ record_words → Wrote L (puts L p k vs) p
wrote_puts L p k vs l =
    record { size = length-puts L p k vs; head = puts_header L p k vs; others = λ q n j jl. puts_page L p k vs l q j n jl }

pub wrote_anew : (L : List ℕ) (p : ℕ) (vs : List ℕ) → Wrote L (anew L p vs) p
wrote_anew L p vs = record { size = length-anew L p vs; head = anew_header L p vs; others = λ q n j jl. anew_other L p vs q j n jl }

pub wrote_hash : (L : List ℕ) (p : ℕ) (h : List ℕ) → Wrote L (put_hash L p h) p
wrote_hash L p h = record { size = length-put_hash L p h; head = put_hash_header L p h; others = λ q n j jl. put_hash_page L p h q j n jl }

pub wrote_gain : (L : List ℕ) (p : ℕ) → Wrote L (gain L p) p
wrote_gain L p = record { size = length-gain L p; head = gain_header L p; others = λ q n j jl. gain_other L p q j (λ e. n (omega arith)) }

pub wrote_lose : (L : List ℕ) (p : ℕ) → Wrote L (lose L p) p
wrote_lose L p = record { size = length-lose L p; head = lose_header L p; others = λ q n j jl. lose_other L p q j (λ e. n (omega arith)) }

pub wrote_then : {L L' L'' : List ℕ} {p : ℕ} → Wrote L L' p → Wrote L' L'' p → Wrote L L'' p
wrote_then x y =
    record {
      size = y.size ∙ x.size;
      head = λ k l. y.head k l ∙ x.head k l;
      others = λ q n k l. y.others q n k l ∙ x.others q n k l;
    }

-- ---- page p was in use and is
pub wrote_exact : {n : ℕ} {L L' : List ℕ} {p : ℕ} → Exact n L → Wrote L L' p → p < n → (rec L p 0 ≡ free → ⊥) → (rec L' p 0 ≡ free → ⊥) → Exact n L'
wrote_exact {n} {L} {L'} {p} ex x pl used used' =
    let (fit, says) = exact_says ex in
    exact_but ex p pl x.size
    (record {
      fit = λ j l. rw (x.head (map_start + j) (omega arith)) (fit j l);
      here = rw (x.head (map_start + p / 32) (omega (arith, ex.few))) (says p (omega (arith, ex.few)) ∙ sym (in_use n (rec L) p pl used));
      others = λ q l _. rw (x.head (map_start + q / 32) (omega arith));
    })
    (in_use n (rec L') p pl used') (λ q ql n. x.others q n 0 (omega arith))

pub wrote_header : {b : Machine} {M L L' : List ℕ} {p : ℕ} → Accepted b M L → Wrote L L' p → p < b.pages
    → (rec L p 0 ≡ free → ⊥) → (rec L' p 0 ≡ free → ⊥) → ((t : ℕ) → Runs b (rec L) t → Runs b (rec L') t) → HeaderOk b (header L') (rec L')
wrote_header ok x pl used used' runs =
    header_kept ok (wrote_exact (exact ok) x pl used used') (x.head 0 (omega arith)) (λ k lo hi. x.head k hi) runs
