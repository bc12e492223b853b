-- The words of an image: of memory and ledger, with a payload in its place, and back as a memory and a ledger. Assumes nothing.
use Prim.Native.Nat.{ℕ, ◌+◌, ◌-◌, ◌*◌, ◌≤◌, ◌<◌}
use mathlib.Core.Path.{◌≡◌, sym, ap, ◌∙◌}
use mathlib.Core.List.{List, ◌++◌}
use native.Mathlib.Omega.{arith}
use lib.ListN.{length, get_or, take, drop, length-append, length-take, length-drop, get_or-append}
use lib.Seq.{length-take-le, get_or-take, get_or-drop, get_or-append-add}
use Rattle.words.specs.Words.{paste}
use Rattle.words.specs.Bytes.{word_at}
use Rattle.words.proofs.Lists.{length-list_below, list_below_at}
use Rattle.words.proofs.Paste.{length-paste, paste_before, paste_in, paste_after}
use Rattle.machine.specs.declared.Machine.{Machine}
use Rattle.machine.specs.Machine.{frame_words, Lent}
use Rattle.image.specs.Image.{ledger_words, secure_words, image_words, image_of, payload_at, payload_words, total}
use Rattle.image.specs.Reader.{payload_of, placed, ledger_of, memory_of}
use Rattle.image.proofs.Inside.{begins}

-- ---- the image of a memory and a ledger
module _ (b : Machine) (M L : List ℕ) (lent : Lent b M L) where
  pub secure_inside : frame_words * b.secure + secure_words b ≤ length M
  secure_inside = omega (arith, lent.memory, lent.fits.secure_below)

  pub length_image_of : length (image_of b M L) ≡ image_words b
  unfolding image_of
  length_image_of = simp (length-append, length-take, length-drop) (omega (arith, secure_inside, lent.ledger))

  pub image_ledger : (p : ℕ) → p < ledger_words b → get_or (image_of b M L) p 0 ≡ get_or L p 0
  unfolding image_of
  image_ledger p l = get_or-append L _ 0 p (omega (arith, lent.ledger))

  pub image_secure : (q : ℕ) → q < secure_words b → get_or (image_of b M L) (ledger_words b + q) 0 ≡ get_or M (frame_words * b.secure + q) 0
  unfolding image_of
  image_secure q l =
      ap (λ (x : ℕ). get_or (image_of b M L) (x + q) 0) (sym lent.ledger)
      ∙ get_or-append-add L _ q 0
      ∙ get_or-take (secure_words b) (drop (frame_words * b.secure) M) q 0 l
      ∙ get_or-drop (frame_words * b.secure) M q 0

-- ---- an image with the payload vs of block j in its place
module _ (b : Machine) (I : List ℕ) (j : ℕ) (vs : List ℕ) (long : length I ≡ image_words b) (due : j < total b) (size : length vs ≡ payload_words) where
  front : length (take (payload_words * j) I) ≡ payload_words * j
  front = length-take-le (payload_words * j) I (omega (arith, begins b j due))

  pub length-placed : length (placed b I j vs) ≡ image_words b
  unfolding placed paste
  length-placed = simp (length-append, length-take, length-drop) (omega (arith, begins b j due))

  -- from the payload on
  past : (k : ℕ) → payload_words * j + k < image_words b
      → get_or (placed b I j vs) (payload_words * j + k) 0 ≡ get_or (vs ++ drop (payload_words * j + payload_words) I) k 0
  unfolding placed paste
  past k l =
      get_or-take (image_words b) _ (payload_words * j + k) 0 l
      ∙ ap (λ (x : ℕ). get_or (take (payload_words * j) I ++ (vs ++ drop (payload_words * j + payload_words) I)) (x + k) 0) (sym front)
      ∙ get_or-append-add (take (payload_words * j) I) (vs ++ drop (payload_words * j + payload_words) I) k 0

  pub placed_before : (p : ℕ) → p < payload_words * j → get_or (placed b I j vs) p 0 ≡ get_or I p 0
  unfolding placed paste
  placed_before p l =
      get_or-take (image_words b) _ p 0 (omega (arith, begins b j due))
      ∙ get_or-append (take (payload_words * j) I) _ 0 p (omega (arith, front))
      ∙ get_or-take (payload_words * j) I p 0 l

  pub placed_in : (k : ℕ) → k < payload_words → payload_words * j + k < image_words b → get_or (placed b I j vs) (payload_words * j + k) 0 ≡ get_or vs k 0
  placed_in k l m = past k m ∙ get_or-append vs _ 0 k (omega arith)

  pub placed_after : (p : ℕ) → payload_words * j + payload_words ≤ p → p < image_words b → get_or (placed b I j vs) p 0 ≡ get_or I p 0
  placed_after p l m =
      let k : ℕ = p - (payload_words * j + payload_words) in
      ap (λ (x : ℕ). get_or (placed b I j vs) x 0) {x = p} {y = payload_words * j + (length vs + k)} (omega arith)
      ∙ past (length vs + k) (omega arith)
      ∙ get_or-append-add vs _ k 0
      ∙ get_or-drop (payload_words * j + payload_words) I k 0
      ∙ ap (λ (x : ℕ). get_or I x 0) {x = payload_words * j + payload_words + k} {y = p} (omega arith)

-- ---- an image as a ledger, and in the secure frames of a memory
module _ (b : Machine) (I : List ℕ) (long : length I ≡ image_words b) where
  pub length-ledger_of : length (ledger_of b I) ≡ ledger_words b
  unfolding ledger_of
  length-ledger_of = length-take-le (ledger_words b) I (omega arith)

  pub ledger_of_at : (p : ℕ) → p < ledger_words b → get_or (ledger_of b I) p 0 ≡ get_or I p 0
  unfolding ledger_of
  ledger_of_at p l = get_or-take (ledger_words b) I p 0 l

  module _ (M : List ℕ) (fits : frame_words * b.secure + secure_words b ≤ length M) where
    rest : length (drop (ledger_words b) I) ≡ secure_words b
    rest = length-drop (ledger_words b) I ∙ omega arith

    pub length-memory_of : length (memory_of b M I) ≡ length M
    unfolding memory_of
    length-memory_of = length-paste M (frame_words * b.secure) (secure_words b) (drop (ledger_words b) I) fits rest

    pub memory_of_before : (x : ℕ) → x < frame_words * b.secure → get_or (memory_of b M I) x 0 ≡ get_or M x 0
    unfolding memory_of
    memory_of_before = paste_before M (frame_words * b.secure) (secure_words b) (drop (ledger_words b) I) fits rest

    pub memory_of_in : (q : ℕ) → q < secure_words b → get_or (memory_of b M I) (frame_words * b.secure + q) 0 ≡ get_or I (ledger_words b + q) 0
    unfolding memory_of
    memory_of_in q l =
        paste_in M (frame_words * b.secure) (secure_words b) (drop (ledger_words b) I) fits rest q l ∙ get_or-drop (ledger_words b) I q 0

    pub memory_of_after : (x : ℕ) → frame_words * b.secure + secure_words b ≤ x → get_or (memory_of b M I) x 0 ≡ get_or M x 0
    unfolding memory_of
    memory_of_after = paste_after M (frame_words * b.secure) (secure_words b) (drop (ledger_words b) I) fits rest

-- ---- the payload of a block
pub length-payload_of : (B : List ℕ) → length (payload_of B) ≡ payload_words
unfolding payload_of
length-payload_of B = length-list_below payload_words (λ i. word_at B (payload_at + i))

pub payload_of_at : (B : List ℕ) (i : ℕ) → i < payload_words → get_or (payload_of B) i 0 ≡ word_at B (payload_at + i)
unfolding payload_of
payload_of_at B i l = list_below_at payload_words (λ i. word_at B (payload_at + i)) i l
