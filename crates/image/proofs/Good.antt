-- The words of a block that was written; a block that was written is good; and a good block is one that could have been written. Assumes
-- nothing.
use Prim.Native.Nat.{ℕ, zero, suc, ◌+◌, ◌-◌, ◌*◌, ◌%◌, ◌^◌, ◌≤◌, ◌<◌}
use mathlib.Core.Path.{◌≡◌, refl, sym, ap, ap₂, ◌∙◌}
use mathlib.Core.Logic.{◌⊎◌, inl, inr}
use mathlib.Core.List.{List, [], ◌∷◌, ◌++◌}
use native.Mathlib.Omega.{arith}
use native.Mathlib.Nat.{mod-eq_of_lt}
use lib.ListN.{length, get_or, take, drop, replicate, length-append, get_or-append, get_or-eq_default}
use lib.Seq.{get_or-append-add, get_or-drop, get_or-take, take_at, take_all, ext_get_or}
use Rattle.words.specs.Words.{list_below}
use Rattle.words.specs.Bytes.{AreBytes, little_endian, word_at}
use Rattle.words.proofs.Cases.{lt_or_ge}
use Rattle.words.proofs.Endian.{length-little_endian, little_endian_append, bytes_back, word_at_lem, word_within, word_past, small_append, small_bytes}
use Rattle.words.proofs.Lists.{zeros_at, length-list_below, list_below_at}
use Rattle.crc32.specs.Crc32.{crc32}
use Rattle.crc32.proofs.Laws.{crc32_word}
use Rattle.machine.specs.declared.Machine.{Machine}
use Rattle.machine.specs.Machine.{Lent}
use Rattle.image.specs.Image.{image_words, total, total_word, image_of, payload, body, sealed, block_of}
use Rattle.image.specs.Reader.{Good}
use Rattle.image.proofs.Inside.{total_fits, total_word_fits}
use Rattle.image.proofs.Payload.{length-payload}
use Rattle.image.proofs.Placed.{length_image_of}

-- ---- a payload's words: those of the image, and 0 behind it
module _ (I : List ℕ) (j : ℕ) where
  pub payload_at : (i : ℕ) → i < 124 → get_or (payload I j) i 0 ≡ get_or I (124 * j + i) 0
  unfolding payload
  payload_at i l = get_or-take 124 (drop (124 * j) I ++ replicate 124 0) i 0 l ∙ go (lt_or_ge i (length (drop (124 * j) I))) ∙ get_or-drop (124 * j) I i 0
    where
      D : List ℕ
      D = drop (124 * j) I

      go : (i < length D) ⊎ (length D ≤ i) → get_or (D ++ replicate 124 0) i 0 ≡ get_or D i 0
      go (inl h) = get_or-append D (replicate 124 0) 0 i h
      go (inr h) =
          ap (λ (x : ℕ). get_or (D ++ replicate 124 0) x 0) {x = i} {y = length D + (i - length D)} (omega arith)
          ∙ get_or-append-add D (replicate 124 0) (i - length D) 0
          ∙ zeros_at 124 (i - length D)
          ∙ sym (get_or-eq_default D 0 h)

-- ---- the words of a block
module _ (b : Machine) (number j : ℕ) (I : List ℕ) where
  abbrev words : List ℕ
  words = number ∷ j ∷ total_word b ∷ payload I j

  length-words : length words ≡ 127
  length-words = omega (arith, length-payload I j)

  pub length-body : length (body b number j I) ≡ 508
  unfolding body
  length-body = length-little_endian words ∙ omega (arith, length-words)

  body_word : (k : ℕ) → k < 127 → word_at (body b number j I) k ≡ get_or words k 0 % 2 ^ 32
  unfolding body
  body_word k l = word_at_lem words k (omega (arith, length-words))

-- bytes with their check behind them: 508 bytes, whole words
module _ (X : List ℕ) (e : length X ≡ 508) where
  pub length-sealed : length (sealed X) ≡ 512
  unfolding sealed
  length-sealed = length-append X (little_endian (crc32 X ∷ [])) ∙ omega (arith, length-little_endian (crc32 X ∷ []))

  pub sealed_body : take 508 (sealed X) ≡ X
  unfolding sealed
  sealed_body = take_at X (little_endian (crc32 X ∷ [])) 508 e

  pub sealed_word : (k : ℕ) → k < 127 → word_at (sealed X) k ≡ word_at X k
  unfolding sealed
  sealed_word k l = word_within X (little_endian (crc32 X ∷ [])) k (omega arith)

  pub sealed_check : word_at (sealed X) 127 ≡ crc32 X
  unfolding sealed
  sealed_check =
      word_past X (little_endian (crc32 X ∷ [])) 127 0 e
      ∙ word_at_lem (crc32 X ∷ []) 0 (omega arith)
      ∙ mod-eq_of_lt (crc32_word X)

-- ---- a block that was written
module _ (b : Machine) (M L : List ℕ) (number j : ℕ) where
  abbrev I : List ℕ
  I = image_of b M L

  abbrev X : List ℕ
  X = body b number j I

  pub length-block : length (block_of b M L number j) ≡ 512
  unfolding block_of
  length-block = length-sealed X (length-body b number j I)

  pub block_word : (k : ℕ) → k < 127 → word_at (block_of b M L number j) k ≡ get_or (words b number j I) k 0 % 2 ^ 32
  unfolding block_of
  block_word k l = sealed_word X (length-body b number j I) k l ∙ body_word b number j I k l

  pub small_block : AreBytes (block_of b M L number j)
  unfolding block_of sealed body
  small_block = small_append X (little_endian (crc32 X ∷ [])) (small_bytes (words b number j I)) (small_bytes (crc32 X ∷ []))

  pub block_number : number < 2 ^ 32 → word_at (block_of b M L number j) 0 ≡ number
  block_number l = block_word 0 (omega arith) ∙ mod-eq_of_lt l

  pub block_payload : (i : ℕ) → i < 124 → word_at (block_of b M L number j) (3 + i) ≡ get_or I (124 * j + i) 0 % 2 ^ 32
  block_payload i l = block_word (3 + i) (omega arith) ∙ ap (λ (x : ℕ). x % 2 ^ 32) (past ∙ payload_at I j i l)
    where
      past : get_or (words b number j I) (3 + i) 0 ≡ get_or (payload I j) i 0
      past = get_or-append-add (number ∷ j ∷ total_word b ∷ []) (payload I j) i 0

  pub block_check : crc32 (take 508 (block_of b M L number j)) ≡ word_at (block_of b M L number j) 127
  unfolding block_of
  block_check = ap crc32 (sealed_body X (length-body b number j I)) ∙ sym (sealed_check X (length-body b number j I))

-- it is good as block j, where its number is the one before, or j is 0
pub good_of_block : {b : Machine} {M L : List ℕ} (number j before : ℕ) → Lent b M L → number < 2 ^ 32 → j < total b
    → ((j ≡ 0 → ⊥) → number ≡ before) → Good b j before (block_of b M L number j)
good_of_block {b} {M} {L} number j before l n t same =
    record {
      whole = length-block b M L number j;
      due = t;
      index = block_word b M L number j 1 (omega arith) ∙ mod-eq_of_lt (omega (arith, total_fits b l.fits));
      totals = block_word b M L number j 2 (omega arith) ∙ mod-eq_of_lt (total_word_fits b l.fits);
      one_number = λ z. block_number b M L number j n ∙ same z;
      fill = λ i il p.
          block_payload b M L number j i il
          ∙ ap (λ (x : ℕ). x % 2 ^ 32) (get_or-eq_default (image_of b M L) 0 {n = 124 * j + i} (omega (arith, length_image_of b M L l)));
      check = block_check b M L number j;
    }

-- ---- a good block of bytes is block j of the image that holds its payload
module _ (b : Machine) (M L : List ℕ) (j before : ℕ) (B : List ℕ) (small : AreBytes B) (l : Lent b M L) (g : Good b j before B)
    (holds : (i : ℕ) → i < 124 → 124 * j + i < image_words b → get_or (image_of b M L) (124 * j + i) 0 ≡ word_at B (3 + i)) where
  abbrev J : List ℕ
  J = image_of b M L

  payload_same : (i : ℕ) → i < 124 → get_or (payload J j) i 0 ≡ word_at B (3 + i)
  payload_same i il = payload_at J j i il ∙ go (lt_or_ge (124 * j + i) (image_words b))
    where
      go : (124 * j + i < image_words b) ⊎ (image_words b ≤ 124 * j + i) → get_or J (124 * j + i) 0 ≡ word_at B (3 + i)
      go (inl h) = holds i il h
      go (inr h) = get_or-eq_default J 0 {n = 124 * j + i} (omega (arith, length_image_of b M L l)) ∙ sym (g.fill i il h)

  words_same : words b (word_at B 0) j J ≡ list_below 127 (word_at B)
  words_same =
      ext_get_or 0 (words b (word_at B 0) j J) (list_below 127 (word_at B)) (long ∙ sym (length-list_below 127 (word_at B)))
      (λ k kl. go k (omega (arith, long)) ∙ sym (list_below_at 127 (word_at B) k (omega (arith, long))))
    where
      long : length (words b (word_at B 0) j J) ≡ 127
      long = length-words b (word_at B 0) j J

      go : (k : ℕ) → k < 127 → get_or (words b (word_at B 0) j J) k 0 ≡ word_at B k
      go zero kl = refl
      go (suc zero) kl = sym g.index
      go (suc (suc zero)) kl = sym g.totals
      go (suc (suc (suc i))) kl = payload_same i (omega arith) ∙ ap (word_at B) {x = 3 + i} {y = suc (suc (suc i))} (omega arith)

  body_same : body b (word_at B 0) j J ≡ take 508 B
  unfolding body
  body_same = ap little_endian words_same ∙ bytes_back B 127 small (omega (arith, g.whole))

  pub block_of_good : B ≡ block_of b M L (word_at B 0) j
  unfolding block_of sealed list_below
  block_of_good =
      sym (take_all 512 B (omega (arith, g.whole)))
      ∙ sym (bytes_back B 128 small (omega (arith, g.whole)))
      ∙ little_endian_append (list_below 127 (word_at B)) (word_at B 127 ∷ [])
      ∙ ap₂ (λ (x : List ℕ) (c : ℕ). x ++ little_endian (c ∷ [])) (bytes_back B 127 small (omega (arith, g.whole))) (sym g.check)
      ∙ ap (λ (x : List ℕ). x ++ little_endian (crc32 x ∷ [])) (sym body_same)
