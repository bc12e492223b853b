-- A list stored in a record: word by word, and at once where it lies inside the ledger. Assumes nothing.
use Rattle.std.proofs.Common.{◌≡◌, ℕ, ◌+◌, ◌*◌, ◌<◌, ◌≤◌, List, [], ◌∷◌, length, length-set, sym, get_or, drop, set, ap, ◌∙◌, add_assoc, add-one, arith, drop_of_length-le, drop-cons}
use Rattle.words.specs.Words.{record_words, paste}
use Rattle.words.proofs.Paste.{paste_none, paste_first}
use Rattle.machine.specs.Machine.{header_words}
use Rattle.ledger.specs.Ledger.{put, puts}

-- the words of vs from i on, one of them stored; and none left
pub puts_step : (L : List ℕ) (p k i : ℕ) (vs : List ℕ) → i < length vs
    → puts (put L p (k + i) (get_or vs i 0)) p (k + (i + 1)) (drop (i + 1) vs) ≡ puts L p (k + i) (drop i vs)
unfolding puts
puts_step L p k i vs l = rw (drop-cons vs i 0 l, ← add_assoc k i 1, add-one i)

pub puts_end : (L : List ℕ) (p k i : ℕ) (vs : List ℕ) → length vs ≤ i → puts L p k (drop i vs) ≡ L
unfolding puts
puts_end L p k i vs l = rw (drop_of_length-le vs l)

-- where they lie inside the ledger, from word `at` on, they are pasted
pub puts_inside : (L : List ℕ) (p k at : ℕ) (vs : List ℕ) → at ≡ header_words + record_words * p + k → at + length vs ≤ length L
    → puts L p k vs ≡ paste L at (length vs) vs
unfolding puts put
puts_inside L p k at [] e f = paste_none L at []
puts_inside L p k at (v ∷ vs) e f =
    ap (λ (i : ℕ). puts (set L i v) p (k + 1) vs) (sym e)
    ∙ puts_inside (set L at v) p (k + 1) (at + 1) vs (omega arith) (simp length-set (omega arith))
    ∙ paste_first L at v vs (omega arith)
