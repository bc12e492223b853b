-- Words laid into bytes: a word more, a run behind another, all of them at the front. Assumes nothing.
use Prim.Native.Nat.{ℕ, zero, suc, ◌+◌, ◌-◌, ◌*◌, ◌≤◌, ◌<◌}
use mathlib.Core.Path.{◌≡◌, refl, sym, ap, ◌∙◌}
use mathlib.Core.List.{List, [], ◌∷◌, ◌++◌, append_assoc}
use native.Mathlib.Omega.{arith}
use native.Mathlib.Numerals.{add-one}
use borrow.Rule.Slice.PartMut.{mid_of, put_mid, mid_len}
use lib.ListN.{length, get_or, take, drop, replicate, length-append, length-replicate}
use lib.Seq.{length-take-le, take-suc, take_all, take_at}
use Rattle.words.specs.Words.{paste}
use Rattle.words.specs.Bytes.{word_bytes, bytes_of, little_endian}
use Rattle.words.proofs.Endian.{length-little_endian, little_endian_append}
use Rattle.words.proofs.Paste.{paste_none, paste_behind, part_pasted}
use Rattle.image.specs.Image.{check_at, block_bytes}
use Rattle.image.specs.Runs.{laid}

-- ---- laid words
pub laid_none : (B : List ℕ) (k : ℕ) (ws : List ℕ) → B ≡ laid B k (take 0 ws)
unfolding laid little_endian
laid_none B k ws = paste_none B (word_bytes * k) []

pub laid_one : (B : List ℕ) (k w : ℕ) → paste B (word_bytes * k) word_bytes (bytes_of w) ≡ laid B k (w ∷ [])
unfolding laid little_endian bytes_of
laid_one B k w = refl

-- words right behind words
pub laid_behind : (B : List ℕ) (k : ℕ) (us : List ℕ) (j : ℕ) (vs : List ℕ) → j ≡ k + length us → word_bytes * j ≤ length B
    → laid (laid B k us) j vs ≡ laid B k (us ++ vs)
unfolding laid
laid_behind B k us j vs e fits =
    let at : ℕ = word_bytes * k in
    let n : ℕ = word_bytes * length us in
    let m : ℕ = word_bytes * length vs in
    ap (λ (x : ℕ). paste (laid B k us) x m (little_endian vs)) {x = word_bytes * j} {y = at + n} (omega arith)
    ∙ paste_behind B at n m (little_endian us) (little_endian vs) (omega arith) (length-little_endian us)
    ∙ ap (λ (x : ℕ). paste B at x (little_endian us ++ little_endian vs)) {x = n + m} {y = word_bytes * length (us ++ vs)} (omega (arith, length-append us vs))
    ∙ ap (paste B at (word_bytes * length (us ++ vs))) (sym (little_endian_append us vs))

pub three_laid : {X Y Z : List ℕ} (B : List ℕ) (k : ℕ) (us vs ws : List ℕ) → X ≡ laid B k us → Y ≡ laid X (k + length us) vs
    → Z ≡ laid Y (k + length us + length vs) ws → word_bytes * (k + length us + length vs) ≤ length B → Z ≡ laid B k (us ++ (vs ++ ws))
three_laid {Y} B k us vs ws x y z fits =
    let two : Y ≡ laid B k (us ++ vs) =
    y ∙ ap (λ (S : List ℕ). laid S (k + length us) vs) x ∙ laid_behind B k us (k + length us) vs refl (omega arith) in
    z
    ∙ ap (λ (S : List ℕ). laid S (k + length us + length vs) ws) two
    ∙ laid_behind B k (us ++ vs) (k + length us + length vs) ws (omega (arith, length-append us vs)) fits
    ∙ ap (laid B k) (append_assoc us vs ws)

-- a turn of a loop that puts w, which is word i of ws; and its end
pub laid_turn : {S T : List ℕ} {w : ℕ} (B : List ℕ) (k : ℕ) (ws : List ℕ) (i : ℕ) → S ≡ laid B k (take i ws) → w ≡ get_or ws i 0
    → T ≡ paste S (word_bytes * (k + i)) word_bytes (bytes_of w) → i < length ws → word_bytes * (k + length ws) ≤ length B
    → T ≡ laid B k (take (i + 1) ws)
laid_turn {S} {w} B k ws i s e p l fits =
    p
    ∙ laid_one S (k + i) w
    ∙ ap (λ (x : List ℕ). laid x (k + i) (w ∷ [])) s
    ∙ laid_behind B k (take i ws) (k + i) (w ∷ []) (omega (arith, length-take-le i ws (omega arith))) (omega arith)
    ∙ ap (laid B k) (rw e (rw (add-one i) (sym (take-suc ws i 0 l))))

pub laid_all : (B : List ℕ) (k : ℕ) (ws : List ℕ) (i : ℕ) → length ws ≤ i → laid B k (take i ws) ≡ laid B k ws
laid_all B k ws i l = ap (laid B k) (take_all i ws l)

-- zeros, laid as bytes up to the check
zero_bytes : (n : ℕ) → replicate {A = ℕ} (4 * n) 0 ≡ little_endian (replicate n 0)
unfolding little_endian bytes_of
zero_bytes zero = refl
zero_bytes (suc n) =
    ap (λ (x : ℕ). replicate {A = ℕ} x 0) {x = 4 * suc n} {y = suc (suc (suc (suc (4 * n))))} (omega arith) ∙ ap (λ (l : List ℕ). 0 ∷ 0 ∷ 0 ∷ 0 ∷ l) (zero_bytes n)

pub zeros_laid : (Y Z : List ℕ) (k n : ℕ) → k + n ≡ check_at → length Y ≡ block_bytes → Z ≡ replicate (length (mid_of (4 * k) (508 - 4 * k) Y)) 0
    → put_mid (4 * k) (508 - 4 * k) Y Z ≡ laid Y k (replicate n 0)
unfolding laid
zeros_laid Y Z k n e size z =
    part_pasted (4 * k) (508 - 4 * k) Y Z (word_bytes * length (replicate {A = ℕ} n 0)) (little_endian (replicate n 0)) (omega (arith, length-replicate {A = ℕ} n 0))
    (z ∙ ap (λ (x : ℕ). replicate {A = ℕ} x 0) (mid_len (4 * k) 508 Y (omega arith) ∙ omega arith) ∙ zero_bytes n)

-- words laid at the front are the first bytes
pub laid_front : (B ws : List ℕ) (n : ℕ) → n ≡ word_bytes * length ws → take n (laid B 0 ws) ≡ little_endian ws
unfolding laid paste
laid_front B ws n e = take_at (little_endian ws) (drop (0 + word_bytes * length ws) B) n (length-little_endian ws ∙ sym e)
