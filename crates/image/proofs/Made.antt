-- A block as the code makes it: three words, the payload in its runs, the check. Assumes nothing.
use Prim.Native.Nat.{ℕ, ◌*◌, ◌≤◌}
use mathlib.Core.Path.{◌≡◌, refl, ap, ◌∙◌}
use mathlib.Core.List.{List, [], ◌∷◌, ◌++◌}
use native.Mathlib.Omega.{arith}
use lib.ListN.{length, take, drop_of_length-le}
use Rattle.words.specs.Words.{paste}
use Rattle.words.specs.Bytes.{word_bytes, bytes_of, little_endian}
use Rattle.crc32.specs.Crc32.{crc32}
use Rattle.machine.specs.declared.Machine.{Machine}
use Rattle.image.specs.Image.{number_at, index_at, total_at, payload_at, payload_words, check_at, block_bytes, body_bytes, total_word, image_of, payload, body, sealed, block_of}
use Rattle.image.specs.Runs.{laid}
use Rattle.image.proofs.Laid.{laid_one, laid_behind, laid_front}
use Rattle.image.proofs.Payload.{length-payload}

-- the three words at the head
pub head_laid : {X Y Z : List ℕ} (B : List ℕ) (u v w : ℕ) → X ≡ paste B (word_bytes * number_at) word_bytes (bytes_of u)
    → Y ≡ paste X (word_bytes * index_at) word_bytes (bytes_of v) → Z ≡ paste Y (word_bytes * total_at) word_bytes (bytes_of w)
    → word_bytes * payload_at ≤ length B → Z ≡ laid B 0 (u ∷ v ∷ w ∷ [])
head_laid {X} {Y} B u v w x y z l =
    let one : X ≡ laid B 0 (u ∷ []) = x ∙ laid_one B number_at u in
    let two : Y ≡ laid B 0 (u ∷ v ∷ []) =
    y ∙ laid_one X index_at v ∙ ap (λ (S : List ℕ). laid S index_at (v ∷ [])) one ∙ laid_behind B 0 (u ∷ []) index_at (v ∷ []) refl (omega arith) in
    z ∙ laid_one Y total_at w ∙ ap (λ (S : List ℕ). laid S total_at (w ∷ [])) two ∙ laid_behind B 0 (u ∷ v ∷ []) total_at (w ∷ []) refl (omega arith)

-- the check
pub sealed_made : {C : List ℕ} {check : ℕ} (B : List ℕ) → length B ≡ block_bytes → check ≡ crc32 (take body_bytes B)
    → C ≡ paste B (word_bytes * check_at) word_bytes (bytes_of check) → C ≡ sealed (take body_bytes B)
unfolding paste sealed little_endian
sealed_made {check} B size k c =
    c
    ∙ ap (λ (x : List ℕ). take body_bytes B ++ (bytes_of check ++ x)) (drop_of_length-le B {i = block_bytes} (omega arith))
    ∙ ap (λ (x : ℕ). take body_bytes B ++ (bytes_of x ++ [])) k

-- the block
pub block_made : {X Y Z : List ℕ} {t : ℕ} (b : Machine) (M L : List ℕ) (number j : ℕ) (B : List ℕ) → length B ≡ block_bytes → t ≡ total_word b
    → X ≡ laid B 0 (number ∷ j ∷ t ∷ []) → Y ≡ laid X payload_at (payload (image_of b M L) j) → Z ≡ sealed (take body_bytes Y)
    → Z ≡ block_of b M L number j
unfolding block_of body
block_made {Y} {t} b M L number j B size e x y z =
    let P : List ℕ = payload (image_of b M L) j in
    let long : length P ≡ payload_words = length-payload (image_of b M L) j in
    let all : Y ≡ laid B 0 (number ∷ j ∷ t ∷ P) =
    y ∙ ap (λ (S : List ℕ). laid S payload_at P) x ∙ laid_behind B 0 (number ∷ j ∷ t ∷ []) payload_at P refl (omega arith) in
    z
    ∙ ap (λ (S : List ℕ). sealed (take body_bytes S)) all
    ∙ ap sealed (laid_front B (number ∷ j ∷ t ∷ P) body_bytes (omega arith))
    ∙ ap (λ (n : ℕ). sealed (little_endian (number ∷ j ∷ n ∷ P))) e
