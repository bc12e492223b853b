-- The payload of a block in its runs: words of the ledger, of the secure frames, zeros. Assumes nothing.
use Prim.Native.Nat.{ℕ, zero, suc, ◌+◌, ◌-◌, ◌*◌, ◌≤◌, ◌<◌, min}
use mathlib.Core.Path.{◌≡◌, refl, sym, ap, ◌∙◌}
use mathlib.Core.Logic.{⊎_elim}
use mathlib.Core.List.{List, [], ◌∷◌, ◌++◌, append_assoc, append-nil}
use native.Mathlib.Nat.{min-le_right}
use native.Mathlib.Omega.{arith}
use lib.ListN.{length, take, drop, replicate, length-append, length-drop, length-replicate, drop_of_length-le}
use lib.Seq.{length-take-le, take_all, take-nil, take-take, take-append-le, take-append-add, drop-drop}
use Rattle.words.proofs.Cases.{lt_or_ge}
use Rattle.machine.specs.declared.Machine.{Machine}
use Rattle.machine.specs.Machine.{frame_words, Lent}
use Rattle.image.specs.declared.runs.Runs.{Runs}
use Rattle.image.specs.Image.{ledger_words, secure_words, payload_at, payload_words, block_bytes, image_of, payload}
use Rattle.image.specs.Runs.{runs_of, laid}
use Rattle.image.proofs.Inside.{RunsFit}
use Rattle.image.proofs.Laid.{three_laid}

pub length-payload : (I : List ℕ) (j : ℕ) → length (payload I j) ≡ payload_words
unfolding payload
length-payload I j =
    let Z : List ℕ = replicate payload_words 0 in
    let X : List ℕ = drop (payload_words * j) I in
    length-take-le payload_words (X ++ Z) (omega (arith, length-append X Z, length-replicate {A = ℕ} payload_words 0))

-- ---- lists cut where two meet
take_seam : (n a : ℕ) (xs ys : List ℕ) → a ≡ min n (length xs) → take n (xs ++ ys) ≡ take a xs ++ take (n - a) ys
take_seam n a xs ys e = ⊎_elim short long (lt_or_ge n (length xs))
  where
    short : n < length xs → take n (xs ++ ys) ≡ take a xs ++ take (n - a) ys
    short l =
        take-append-le n xs ys (omega arith)
        ∙ sym (append-nil (take n xs))
        ∙ ap (λ (k : ℕ). take n xs ++ take k ys) {x = 0} {y = n - a} (omega arith)
        ∙ ap (λ (k : ℕ). take k xs ++ take (n - a) ys) {x = n} {y = a} (omega arith)

    long : length xs ≤ n → take n (xs ++ ys) ≡ take a xs ++ take (n - a) ys
    long l =
        ap (λ (k : ℕ). take k (xs ++ ys)) {x = n} {y = length xs + (n - a)} (omega arith)
        ∙ take-append-add xs ys (n - a)
        ∙ ap (λ (x : List ℕ). x ++ take (n - a) ys) (sym (take_all a xs (omega arith)))

drop_seam : (n k : ℕ) (xs ys : List ℕ) → k ≡ n - length xs → drop n (xs ++ ys) ≡ drop n xs ++ drop k ys
drop_seam zero k xs ys e = ap (λ (x : ℕ). xs ++ drop x ys) {x = 0} {y = k} (omega arith)
drop_seam (suc n) k [] ys e = ap (λ (x : ℕ). drop x ys) {x = suc n} {y = k} (omega arith)
drop_seam (suc n) k (x ∷ xs) ys e = drop_seam n k xs ys (omega arith)

drop-take : (n m : ℕ) (xs : List ℕ) → drop n (take m xs) ≡ take (m - n) (drop n xs)
drop-take zero m xs = ap (λ (x : ℕ). take x xs) {x = m} {y = m - 0} (omega arith)
drop-take (suc n) zero xs = ap (λ (x : ℕ). take x (drop (suc n) xs)) {x = 0} {y = 0 - suc n} (omega arith)
drop-take (suc n) (suc m) [] = sym (take-nil (suc m - suc n))
drop-take (suc n) (suc m) (x ∷ xs) = drop-take n m xs ∙ ap (λ (k : ℕ). take k (drop n xs)) {x = m - n} {y = suc m - suc n} (omega arith)

drop_end : (n k : ℕ) (xs : List ℕ) → k ≡ min n (length xs) → drop n xs ≡ drop k xs
drop_end n k xs e =
    ⊎_elim
    (λ l. ap (λ (x : ℕ). drop x xs) {x = n} {y = k} (omega arith))
    (λ l. drop_of_length-le xs {i = n} l ∙ sym (drop_of_length-le xs {i = k} (omega arith)))
    (lt_or_ge n (length xs))

take-zeros : (n m : ℕ) → n ≤ m → take n (replicate {A = ℕ} m 0) ≡ replicate n 0
take-zeros zero m l = refl
take-zeros (suc n) zero l = absurd (omega arith)
take-zeros (suc n) (suc m) l = ap (λ (xs : List ℕ). 0 ∷ xs) (take-zeros n m (omega arith))

-- a part that is lent: from a on, to a + n
part : (a n : ℕ) (xs : List ℕ) → take (a + n - a) (drop a xs) ≡ take n (drop a xs)
part a n xs = ap (λ (k : ℕ). take k (drop a xs)) {x = a + n - a} {y = n} (omega arith)

-- n words from word `at` of L and s words of M: a words from word `from` of L, f words of M from word `first` of the s on, zeros
module _ (L M : List ℕ) (n at s start from a first f : ℕ) (fits : start + s ≤ length M) where
  long : length (take s (drop start M)) ≡ s
  long = length-take-le s (drop start M) (omega (arith, length-drop start M))

  left : n - a - f ≤ n
  left = omega arith

  in_runs : from ≡ min at (length L) → a ≡ min n (length L - at) → first ≡ at - length L → f ≡ min (n - a) (s - first)
      → take n (drop at (L ++ take s (drop start M)) ++ replicate n 0)
      ≡ take a (drop from L) ++ (take f (drop (start + first) M) ++ replicate (n - a - f) 0)
  in_runs p q r t =
      let S : List ℕ = take s (drop start M) in
      let Z : List ℕ = replicate n 0 in
      ap (λ (x : List ℕ). take n (x ++ Z)) (drop_seam at first L S r)
      ∙ ap (take n) (append_assoc (drop at L) (drop first S) Z)
      ∙ take_seam n a (drop at L) (drop first S ++ Z) (q ∙ ap (min n) (sym (length-drop at L)))
      ∙ ap (λ (x : List ℕ). take a x ++ take (n - a) (drop first S ++ Z)) (drop_end at from L p)
      ∙ ap (λ (x : List ℕ). take a (drop from L) ++ x)
      (take_seam (n - a) f (drop first S) Z (t ∙ ap (min (n - a)) (sym (length-drop first S ∙ ap (λ (x : ℕ). x - first) long)))
      ∙ ap (λ (x : List ℕ). take f x ++ take (n - a - f) Z) (drop-take first s (drop start M))
      ∙ ap (λ (x : List ℕ). x ++ take (n - a - f) Z) (take-take f (s - first) (drop first (drop start M)) (rw t (min-le_right (n - a) (s - first))))
      ∙ ap (λ (x : List ℕ). take f x ++ take (n - a - f) Z) (drop-drop first start M)
      ∙ ap (λ (x : List ℕ). take f (drop (start + first) M) ++ x) (take-zeros (n - a - f) n left))

-- ---- the runs of block j
-- the words that they name
abbrev pub run_words : Machine → List ℕ → List ℕ → Runs → List ℕ
run_words b M L r =
    take r.ledger (drop r.from L)
    ++ (take r.frames (drop (frame_words * b.secure + r.first) M) ++ replicate (payload_words - r.ledger - r.frames) 0)

module _ (b : Machine) (M L : List ℕ) (j : ℕ) (ok : Lent b M L) where
  pub payload_runs : payload (image_of b M L) j ≡ run_words b M L (runs_of b j)
  unfolding payload image_of runs_of
  payload_runs =
      let l : length L ≡ ledger_words b = ok.ledger in
      in_runs L M payload_words (payload_words * j) (secure_words b) (frame_words * b.secure) _ _ _ _ (omega (arith, ok.memory, ok.fits.secure_below))
      (ap (min (payload_words * j)) (sym l)) (ap (λ (x : ℕ). min payload_words (x - payload_words * j)) (sym l))
      (ap (λ (x : ℕ). payload_words * j - x) (sym l)) refl

  -- as the code lays them
  pub payload_laid : {r : Runs} {X Y Z : List ℕ} (B : List ℕ) → length B ≡ block_bytes → r ≡ runs_of b j → RunsFit b M L r
      → X ≡ laid B payload_at (take (r.from + r.ledger - r.from) (drop r.from L))
      → let start : ℕ = frame_words * b.secure + r.first in
      Y ≡ laid X (payload_at + r.ledger) (take (start + r.frames - start) (drop start M))
      → Z ≡ laid Y (payload_at + r.ledger + r.frames) (replicate (payload_words - r.ledger - r.frames) 0)
      → Z ≡ laid B payload_at (payload (image_of b M L) j)
  payload_laid {r} {X} {Y} {Z} B size e f x y z =
      let start : ℕ = frame_words * b.secure + r.first in
      let us : List ℕ = take r.ledger (drop r.from L) in
      let vs : List ℕ = take r.frames (drop start M) in
      let ws : List ℕ = replicate (payload_words - r.ledger - r.frames) 0 in
      let n : length us ≡ r.ledger = length-take-le r.ledger (drop r.from L) (omega (arith, length-drop r.from L)) in
      let m : length vs ≡ r.frames = length-take-le r.frames (drop start M) (omega (arith, length-drop start M)) in
      let two : Y ≡ laid X (payload_at + length us) vs =
      y ∙ ap (laid X (payload_at + r.ledger)) (part start r.frames M) ∙ ap (λ (k : ℕ). laid X (payload_at + k) vs) (sym n) in
      let three : Z ≡ laid Y (payload_at + length us + length vs) ws =
      z ∙ ap (λ (k : ℕ). laid Y k ws) {x = payload_at + r.ledger + r.frames} {y = payload_at + length us + length vs} (omega arith) in
      three_laid B payload_at us vs ws (x ∙ ap (laid B payload_at) (part r.from r.ledger L)) two three (omega arith)
      ∙ ap (λ (q : Runs). laid B payload_at (run_words b M L q)) e
      ∙ ap (laid B payload_at) (sym payload_runs)
