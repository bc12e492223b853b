-- A batch reads as many records as it has, and cut in two it gives the same. Assumes nothing.
use Prim.Native.Nat.{ℕ, zero, suc, ◌+◌, ◌*◌}
use mathlib.Core.Path.{◌≡◌, refl, sym, ap, ◌∙◌}
use mathlib.Core.List.{List, [], ◌∷◌, ◌++◌, append_assoc}
use native.Mathlib.Omega.{arith}
use native.Mathlib.Nat.{zero-add, suc-add}
use lib.ListN.{take, drop}
use lib.Seq.{drop-drop, take-nil, take-take}
use Rattle.words.specs.Words.{record_words, padded}
use Rattle.machine.specs.declared.Machine.{Machine}
use Rattle.answer.specs.Answer.{Out}
use Rattle.batch.specs.Batch.{obey, after, batch}

-- ---- k records are read
drop-take : (n m : ℕ) (W : List ℕ) → drop n (take (n + m) W) ≡ take m (drop n W)
drop-take zero m W = rw (zero-add m)
drop-take (suc n) m [] = rw (suc-add n m) (sym (take-nil m))
drop-take (suc n) m (w ∷ W) = rw (suc-add n m) (drop-take n m W)

pub batch_take : (b : Machine) (k : ℕ) (M L W : List ℕ) → batch b k M L (take (record_words * k) W) ≡ batch b k M L W
unfolding batch
batch_take b zero M L W = refl
batch_take b (suc k) M L W =
    let o = obey b M L (take record_words W) in
    let first = take-take record_words (record_words * suc k) W (omega arith) in
    let rest : drop record_words (take (record_words * suc k) W) ≡ take (record_words * k) (drop record_words W)
    = ap (λ (i : ℕ). drop record_words (take i W)) {x = record_words * suc k} {y = record_words + record_words * k} (omega arith)
    ∙ drop-take record_words (record_words * k) W in
    rw (first, rest, batch_take b k o.mem o.led (drop record_words W))

-- ---- cut in two
pub after_after : (us vs : List ℕ) (o : Out) → after us (after vs o) ≡ after (us ++ vs) o
unfolding after
after_after us vs o = ap (λ (l : List ℕ). record { ans = l; mem = o.mem; led = o.led }) (sym (append_assoc us vs o.ans))

-- the second part from where the first left the state
pub cut : (b : Machine) (j k : ℕ) (M L W : List ℕ)
    → batch b (j + k) M L W
    ≡ after (batch b j M L W).ans (batch b k (batch b j M L W).mem (batch b j M L W).led (drop (record_words * j) W))
unfolding batch after
cut b zero k M L W = rw (zero-add k)
cut b (suc j) k M L W =
    let o = obey b M L (take record_words W) in
    let x = batch b j o.mem o.led (drop record_words W) in
    ap (λ (i : ℕ). batch b i M L W) (suc-add j k)
    ∙ ap (after (padded o.ans)) (cut b j k o.mem o.led (drop record_words W))
    ∙ after_after (padded o.ans) x.ans (batch b k x.mem x.led (drop (record_words * j) (drop record_words W)))
    ∙ ap (λ (X : List ℕ). after (padded o.ans ++ x.ans) (batch b k x.mem x.led X))
    (drop-drop (record_words * j) record_words W ∙ ap (λ (i : ℕ). drop i W) {x = record_words + record_words * j} {y = record_words * suc j} (omega arith))
