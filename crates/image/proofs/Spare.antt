-- A spare memory and ledger: its image by frames, and what a good block leaves of it. Assumes nothing.
use Prim.Native.Nat.{ℕ, ◌+◌, ◌-◌, ◌*◌, ◌/◌, ◌%◌, ◌≤◌, ◌<◌}
use mathlib.Core.Path.{◌≡◌, sym, ap, ◌∙◌}
use mathlib.Core.Logic.{◌⊎◌, inl, inr, ⊎_elim}
use mathlib.Core.List.{List}
use native.Mathlib.Omega.{arith}
use lib.ListN.{length, get_or}
use lib.Seq.{ext_get_or}
use Rattle.words.proofs.Cases.{lt_or_ge}
use Rattle.machine.specs.declared.Machine.{Machine}
use Rattle.machine.specs.Machine.{frame_words, Lent}
use Rattle.memory.specs.Memory.{frame}
use Rattle.image.specs.Image.{ledger_words, secure_words, image_words, image_of, total}
use Rattle.image.specs.Reader.{payload_of, with_block, ledger_of, memory_of}
use Rattle.image.proofs.Placed.{secure_inside, length_image_of, image_ledger, image_secure, length-placed, length-ledger_of, ledger_of_at, length-memory_of, memory_of_before, memory_of_in, memory_of_after, length-payload_of}

-- a place of the image is in the ledger, or one of the secure words
place : {C : Type 0} (b : Machine) (p : ℕ) → p < image_words b → (p < ledger_words b → C) → ((q : ℕ) → q < secure_words b → p ≡ ledger_words b + q → C) → C
place b p l in_ledger in-frames =
    ⊎_elim in_ledger (λ h. in-frames (p - ledger_words b) (omega arith) (omega arith)) (lt_or_ge p (ledger_words b))

-- ---- the image by frames
module _ (b : Machine) (M L : List ℕ) (lent : Lent b M L) where
  pub image_frame : (p k : ℕ) → p < b.pages → k < frame_words → get_or (image_of b M L) (ledger_words b + (frame_words * p + k)) 0 ≡ frame M (b.secure + p) k
  unfolding frame
  image_frame p k pl kl =
      image_secure b M L lent (frame_words * p + k) (omega arith)
      ∙ ap (λ (x : ℕ). get_or M x 0) {x = frame_words * b.secure + (frame_words * p + k)} {y = frame_words * (b.secure + p) + k} (omega arith)

  -- a secure word, by the frame that it is in
  pub image_place : (q : ℕ) → q < secure_words b → get_or (image_of b M L) (ledger_words b + q) 0 ≡ frame M (b.secure + q / 1024) (q % 1024)
  image_place q l =
      ap (λ (x : ℕ). get_or (image_of b M L) (ledger_words b + x) 0) {x = q} {y = 1024 * (q / 1024) + q % 1024} (omega arith)
      ∙ image_frame (q / 1024) (q % 1024) (omega arith) (omega arith)

-- two states with one image have one ledger and the same secure frames, and the other way round
module _ (b : Machine) (M L M' L' : List ℕ) (l : Lent b M L) (l' : Lent b M' L') where
  pub image_same : ((k : ℕ) → k < ledger_words b → get_or L' k 0 ≡ get_or L k 0)
      → ((p k : ℕ) → p < b.pages → k < frame_words → frame M' (b.secure + p) k ≡ frame M (b.secure + p) k)
      → (p : ℕ) → p < image_words b → get_or (image_of b M' L') p 0 ≡ get_or (image_of b M L) p 0
  image_same led mem p pl =
      place b p pl
      (λ h. image_ledger b M' L' l' p h ∙ led p h ∙ sym (image_ledger b M L l p h))
      (λ q ql e.
      ap (λ (x : ℕ). get_or (image_of b M' L') x 0) e ∙ image_place b M' L' l' q ql ∙ mem (q / 1024) (q % 1024) (omega arith) (omega arith)
      ∙ sym (image_place b M L l q ql)
      ∙ ap (λ (x : ℕ). get_or (image_of b M L) x 0) (sym e))

  module _ (same : (p : ℕ) → p < image_words b → get_or (image_of b M' L') p 0 ≡ get_or (image_of b M L) p 0) where
    pub same_ledger : L' ≡ L
    same_ledger =
        ext_get_or 0 L' L (l'.ledger ∙ sym l.ledger)
        (λ k kl.
        let h : k < ledger_words b = omega (arith, l'.ledger) in
        sym (image_ledger b M' L' l' k h) ∙ same k (omega arith) ∙ image_ledger b M L l k h)

    pub same_frames : (p k : ℕ) → p < b.pages → k < frame_words → frame M' (b.secure + p) k ≡ frame M (b.secure + p) k
    same_frames p k pl kl =
        sym (image_frame b M' L' l' p k pl kl) ∙ same (ledger_words b + (frame_words * p + k)) (omega arith) ∙ image_frame b M L l p k pl kl

-- ---- what a good block leaves: the image with its payload in place, and every other frame
module _ (b : Machine) (M L : List ℕ) (j : ℕ) (B : List ℕ) (lent : Lent b M L) (due : j < total b) where
  long : length (with_block b M L j B) ≡ image_words b
  long = length-placed b (image_of b M L) j (payload_of B) (length_image_of b M L lent) due (length-payload_of B)

  inside : frame_words * b.secure + secure_words b ≤ length M
  inside = secure_inside b M L lent

  pub filled_lent : Lent b (memory_of b M (with_block b M L j B)) (ledger_of b (with_block b M L j B))
  filled_lent =
      record { fits = lent.fits; memory = length-memory_of b (with_block b M L j B) long M inside ∙ lent.memory; ledger = length-ledger_of b (with_block b M L j B) long }

  pub filled_image : (p : ℕ) → p < image_words b → get_or (image_of b (memory_of b M (with_block b M L j B)) (ledger_of b (with_block b M L j B))) p 0 ≡ get_or (with_block b M L j B) p 0
  filled_image p pl =
      let M' : List ℕ = memory_of b M (with_block b M L j B) in
      let L' : List ℕ = ledger_of b (with_block b M L j B) in
      place b p pl
      (λ h. image_ledger b M' L' filled_lent p h ∙ ledger_of_at b (with_block b M L j B) long p h)
      (λ q ql e.
      ap (λ (x : ℕ). get_or (image_of b M' L') x 0) e ∙ image_secure b M' L' filled_lent q ql ∙ memory_of_in b (with_block b M L j B) long M inside q ql
      ∙ ap (λ (x : ℕ). get_or (with_block b M L j B) x 0) (sym e))

  pub filled_others : (f k : ℕ) → (f < b.secure) ⊎ (b.secure + b.pages ≤ f) → k < frame_words → frame (memory_of b M (with_block b M L j B)) f k ≡ frame M f k
  unfolding frame
  filled_others f k (inl h) kl = memory_of_before b (with_block b M L j B) long M inside (frame_words * f + k) (omega arith)
  filled_others f k (inr h) kl = memory_of_after b (with_block b M L j B) long M inside (frame_words * f + k) (omega arith)
