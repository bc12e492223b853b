-- The payload of a block taken run by run, as the code does it, is the payload in its place. Assumes nothing.
use Prim.Native.Nat.{ℕ, ◌+◌, ◌-◌, ◌*◌, ◌≤◌, ◌<◌}
use mathlib.Core.Path.{◌≡◌, sym, ap, ◌∙◌}
use mathlib.Core.List.{List}
use mathlib.Core.Logic.{⊎_elim}
use native.Mathlib.Omega.{arith}
use lib.ListN.{length, get_or, take, drop, length-drop}
use lib.Seq.{length-take-le, get_or-take, get_or-drop, ext_get_or}
use Rattle.words.specs.Words.{paste}
use Rattle.words.specs.Bytes.{word_at}
use Rattle.words.proofs.Cases.{lt_or_ge}
use Rattle.words.proofs.Paste.{length-paste, paste_before, paste_in, paste_after}
use Rattle.machine.specs.declared.Machine.{Machine}
use Rattle.machine.specs.Machine.{frame_words, Lent}
use Rattle.image.specs.Image.{ledger_words, secure_words, image_words, image_of, payload_at, payload_words, total}
use Rattle.image.specs.Reader.{payload_of, placed, ledger_of, memory_of}
use Rattle.image.specs.Runs.{runs_of}
use Rattle.image.specs.declared.runs.Runs.{Runs}
use Rattle.image.proofs.Inside.{RunsFit, runs_fit, begins, fits_payload, ledger_inside, ledger_from, ledger_in, ledger_past, frames_inside, frames_from, frames_in, frames_past}
use Rattle.image.proofs.Placed.{secure_inside, length_image_of, image_ledger, image_secure, length-placed, placed_before, placed_in, placed_after, length-ledger_of, ledger_of_at, length-memory_of, memory_of_before, memory_of_in, memory_of_after, length-payload_of, payload_of_at}

-- ---- a place is before, in or after n words from word i on
by_place : {C : Type 0} (i n x : ℕ) → (x < i → C) → ((k : ℕ) → x ≡ i + k → k < n → C) → (i + n ≤ x → C) → C
by_place i n x before here after =
    ⊎_elim before (λ l. ⊎_elim (λ m. here (x - i) (omega arith) (omega arith)) after (lt_or_ge x (i + n))) (lt_or_ge x i)

-- a list that has the words of a paste is the paste
is_paste : (N M : List ℕ) (i n : ℕ) (vs : List ℕ) → i + n ≤ length M → length vs ≡ n → length N ≡ length M
    → ((k : ℕ) → k < i → get_or N k 0 ≡ get_or M k 0)
    → ((k : ℕ) → k < n → get_or N (i + k) 0 ≡ get_or vs k 0)
    → ((k : ℕ) → i + n ≤ k → k < length M → get_or N k 0 ≡ get_or M k 0)
    → paste M i n vs ≡ N
is_paste N M i n vs fits size same before here after =
    ext_get_or 0 (paste M i n vs) N (length-paste M i n vs fits size ∙ sym same)
    λ x l.
    by_place i n x
    (λ m. paste_before M i n vs fits size x m ∙ sym (before x m))
    (λ k e m. rw e (paste_in M i n vs fits size k m ∙ sym (here k m)))
    (λ m. paste_after M i n vs fits size x m ∙ sym (after x m (omega (arith, length-paste M i n vs fits size))))

-- ---- a piece of a list, and of the payload of a block
module _ (vs : List ℕ) (i n : ℕ) where
  length_part : i + n ≤ length vs → length (take n (drop i vs)) ≡ n
  length_part l = length-take-le n (drop i vs) (omega (arith, length-drop i vs))

  part_at : (k : ℕ) → k < n → get_or (take n (drop i vs)) k 0 ≡ get_or vs (i + k) 0
  part_at k l = get_or-take n (drop i vs) k 0 l ∙ get_or-drop i vs k 0

module _ (B : List ℕ) (i n : ℕ) where
  pub length_piece : i + n ≤ payload_words → length (take n (drop i (payload_of B))) ≡ n
  length_piece l = length_part (payload_of B) i n (omega (arith, length-payload_of B))

  pub word_of_piece : (k : ℕ) → k < n → i + n ≤ payload_words → word_at B (payload_at + i + k) ≡ get_or (take n (drop i (payload_of B))) k 0
  word_of_piece k l m =
      ap (word_at B) {x = payload_at + i + k} {y = payload_at + (i + k)} (omega arith)
      ∙ sym (part_at (payload_of B) i n k l ∙ payload_of_at B (i + k) (omega arith))

-- ---- the runs taken
module _ {r : Runs} {b : Machine} {M L : List ℕ} (j : ℕ) (lent : Lent b M L) (is : r ≡ runs_of b j) (due : j < total b) where
  fit : RunsFit b M L r
  fit = runs_fit b M L j lent due is

  module _ (vs : List ℕ) (size : length vs ≡ payload_words) where
    abbrev I : List ℕ
    I = image_of b M L

    abbrev P : List ℕ
    P = placed b I j vs

    long : length I ≡ image_words b
    long = length_image_of b M L lent

    long' : length P ≡ image_words b
    long' = length-placed b I j vs long due size

    pub ledger_taken : {X : List ℕ} → X ≡ paste L r.from r.ledger (take r.ledger (drop 0 vs)) → X ≡ ledger_of b P
    ledger_taken e =
        e ∙ is_paste (ledger_of b P) L r.from r.ledger (take r.ledger (drop 0 vs)) fit.in_ledger
        (length_part vs 0 r.ledger (omega (arith, fits_payload b j is)))
        (length-ledger_of b P long' ∙ sym lent.ledger)
        (λ p l.
        ledger_of_at b P long' p (omega (arith, ledger_inside b j is))
        ∙ placed_before b I j vs long due size p (omega (arith, ledger_from b j is))
        ∙ image_ledger b M L lent p (omega (arith, ledger_inside b j is)))
        (λ k l.
        ledger_of_at b P long' (r.from + k) (omega (arith, ledger_inside b j is))
        ∙ ap (λ (x : ℕ). get_or P (x + k) 0) (ledger_in b j is l)
        ∙ placed_in b I j vs long due size k (omega (arith, fits_payload b j is)) (omega (arith, ledger_inside b j is, ledger_in b j is l))
        ∙ sym (part_at vs 0 r.ledger k l ∙ ap (λ (x : ℕ). get_or vs x 0) {x = 0 + k} {y = k} (omega arith)))
        (λ p l m.
        ledger_of_at b P long' p (omega (arith, lent.ledger))
        ∙ placed_after b I j vs long due size p (ledger_past b j is l (omega (arith, lent.ledger))) (omega (arith, lent.ledger))
        ∙ image_ledger b M L lent p (omega (arith, lent.ledger)))

    within : frame_words * b.secure + secure_words b ≤ length M
    within = secure_inside b M L lent

    -- a word that the payload does not change
    kept : (x : ℕ) → ((q : ℕ) → x ≡ frame_words * b.secure + q → q < secure_words b → get_or P (ledger_words b + q) 0 ≡ get_or I (ledger_words b + q) 0)
        → get_or (memory_of b M P) x 0 ≡ get_or M x 0
    kept x same =
        by_place (frame_words * b.secure) (secure_words b) x (memory_of_before b P long' M within x)
        (λ q e l. rw e (memory_of_in b P long' M within q l ∙ same q e l ∙ image_secure b M L lent q l))
        (memory_of_after b P long' M within x)

    pub memory_taken : {X : List ℕ} → X ≡ paste M (frame_words * b.secure + r.first) r.frames (take r.frames (drop r.ledger vs)) → X ≡ memory_of b M P
    memory_taken e =
        e ∙ is_paste (memory_of b M P) M (frame_words * b.secure + r.first) r.frames (take r.frames (drop r.ledger vs)) fit.in_memory
        (length_part vs r.ledger r.frames (omega (arith, fits_payload b j is)))
        (length-memory_of b P long' M within)
        (λ x l. kept x (λ q e m. placed_before b I j vs long due size (ledger_words b + q) (frames_from b j is (omega arith))))
        (λ k l.
        ap (λ (x : ℕ). get_or (memory_of b M P) x 0) {x = frame_words * b.secure + r.first + k} {y = frame_words * b.secure + (r.first + k)} (omega arith)
        ∙ memory_of_in b P long' M within (r.first + k) (omega (arith, frames_inside b j is (begins b j due)))
        ∙ ap (λ (x : ℕ). get_or P x 0) {x = ledger_words b + (r.first + k)} {y = payload_words * j + (r.ledger + k)} (omega (arith, frames_in b j is l))
        ∙ placed_in b I j vs long due size (r.ledger + k) (omega (arith, fits_payload b j is))
        (omega (arith, frames_in b j is l, frames_inside b j is (begins b j due)))
        ∙ sym (part_at vs r.ledger r.frames k l))
        (λ x l _. kept x (λ q e m. placed_after b I j vs long due size (ledger_words b + q) (frames_past b j is (omega arith) m) (omega arith)))
