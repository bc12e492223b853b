-- The batch as the code's loop runs it: a turn puts its record's answer in its place, and what is answered so far with the batch of what
-- is left is the whole batch. Assumes nothing.
use Prim.Native.Nat.{ℕ, suc, ◌+◌, ◌-◌, ◌*◌, ◌≤◌, ◌<◌}
use mathlib.Core.Path.{◌≡◌, refl, sym, ap, ◌∙◌}
use mathlib.Core.List.{List, ◌++◌, append_assoc, append-nil}
use native.Mathlib.Omega.{arith}
use lib.ListN.{length, take, drop, length-append, length-take}
use lib.Seq.{drop-drop, take_all, take_at}
use borrow.Rule.Slice.PartMut.{put_mid, post_of, Post-is}
use Rattle.words.specs.Words.{record_words, padded}
use Rattle.machine.specs.declared.Machine.{Machine}
use Rattle.ledger.proofs.Views.{length-padded}
use Rattle.answer.specs.Answer.{Out}
use Rattle.batch.specs.Batch.{obey, after, batch}
use Rattle.batch.specs.Turns.{record_of, turned, so_far}
use Rattle.batch.proofs.Cut.{after_after}

-- ---- a turn: the answer Y goes to words a to e of the answers A, which are those of record j
pub part_turned : {M' L' vs Y R : List ℕ} (b : Machine) (M L W A : List ℕ) (j a e : ℕ) → a ≡ record_words * j → e ≡ a + record_words
    → R ≡ record_of W j → record { ans = vs; mem = M'; led = L' } ≡ obey b M L R → Y ≡ padded vs
    → record { ans = put_mid a (e - a) A Y; mem = M'; led = L' } ≡ turned b M L W A j
unfolding turned
part_turned {M'} {L'} {vs} {Y} b M L W A j a e p q r o y =
    ap (λ (l : List ℕ). record { ans = l; mem = M'; led = L' })
    (ap (λ (l : List ℕ). take a A ++ (l ++ post_of a (e - a) A)) y
    ∙ ap (λ (l : List ℕ). take a A ++ (padded vs ++ l)) (Post-is a e A (omega arith) ∙ ap (λ (x : ℕ). drop x A) q)
    ∙ ap (λ (x : ℕ). take x A ++ (padded vs ++ drop (x + record_words) A)) p)
    ∙ ap
    (λ (x : Out). record { ans = take (record_words * j) A ++ (padded x.ans ++ drop (record_words * j + record_words) A); mem = x.mem; led = x.led })
    (o ∙ ap (obey b M L) r)

-- ---- what the loop keeps
module _ (b : Machine) (k : ℕ) where
  step : {M' L' vs : List ℕ} (j : ℕ) (M L W P : List ℕ) → j < k
      → record { ans = vs; mem = M'; led = L' } ≡ obey b M L (record_of W j)
      → after (P ++ padded vs) (batch b (k - (j + 1)) M' L' (drop (record_words * (j + 1)) W))
      ≡ after P (batch b (k - j) M L (drop (record_words * j) W))
  unfolding batch
  step {M'} {L'} {vs} j M L W P h e =
      let X = drop (record_words * j) W in
      ap (λ (l : List ℕ). after (P ++ padded vs) (batch b (k - (j + 1)) M' L' l))
      (ap (λ (i : ℕ). drop i W) {x = record_words * (j + 1)} {y = record_words * j + record_words} (omega arith) ∙ sym (drop-drop record_words (record_words * j) W))
      ∙ sym (after_after P (padded vs) (batch b (k - (j + 1)) M' L' (drop record_words X)))
      ∙ ap (λ (o : Out). after P (after (padded o.ans) (batch b (k - (j + 1)) o.mem o.led (drop record_words X)))) e
      ∙ ap (λ (i : ℕ). after P (batch b i M L X)) {x = suc (k - (j + 1))} {y = k - j} (omega arith)

  pub so_far_none : (M L W A : List ℕ) → so_far b k 0 M L W A ≡ batch b k M L W
  unfolding so_far after
  so_far_none M L W A = ap (λ (i : ℕ). batch b i M L W) {x = k - 0} {y = k} (omega arith)

  pub so_far_more : {R : Out} {M' L' A' : List ℕ} (j : ℕ) (M L W A : List ℕ)
      → record { ans = A'; mem = M'; led = L' } ≡ turned b M L W A j
      → so_far b k j M L W A ≡ R → j < k → record_words * j + record_words ≤ length A
      → so_far b k (j + 1) M' L' W A' ≡ R
  unfolding so_far turned
  so_far_more j M L W A e z h g =
      let o = obey b M L (record_of W j) in
      let P = take (record_words * j) A in
      let rest = batch b (k - (j + 1)) o.mem o.led (drop (record_words * (j + 1)) W) in
      let l : length (P ++ padded o.ans) ≡ record_words * (j + 1) = length-append P (padded o.ans) ∙ simp (length-take, length-padded) (omega arith) in
      ap (λ (r : Out). after (take (record_words * (j + 1)) r.ans) (batch b (k - (j + 1)) r.mem r.led (drop (record_words * (j + 1)) W))) e
      ∙ ap (λ (x : List ℕ). after (take (record_words * (j + 1)) x) rest) (sym (append_assoc P (padded o.ans) (drop (record_words * j + record_words) A)))
      ∙ ap (λ (x : List ℕ). after x rest) (take_at (P ++ padded o.ans) (drop (record_words * j + record_words) A) (record_words * (j + 1)) l)
      ∙ step j M L W P h refl
      ∙ z

  pub so_far_all : {R : Out} (j : ℕ) (M L W A : List ℕ) → so_far b k j M L W A ≡ R → length A ≡ record_words * k → k ≤ j
      → record { ans = A; mem = M; led = L } ≡ R
  unfolding so_far after batch
  so_far_all j M L W A z h g =
      sym
      (ap (λ (i : ℕ). after (take (record_words * j) A) (batch b i M L (drop (record_words * j) W))) {x = k - j} {y = 0} (omega arith)
      ∙ ap (λ (l : List ℕ). record { ans = l; mem = M; led = L }) (append-nil (take (record_words * j) A) ∙ take_all (record_words * j) A (omega arith)))
      ∙ z
