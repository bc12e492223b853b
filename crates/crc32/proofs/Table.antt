-- The tables' rule, by one test that is computed: each is the exclusive ors of eight of its words. Assumes nothing.
use Prim.Native.Nat.{ℕ, zero, suc, ◌+◌, ◌*◌, ◌-◌, ◌^◌, ◌≤◌, ◌<◌}
use mathlib.Core.Path.{◌≡◌, refl, sym, ap, ◌∙◌}
use mathlib.Core.Logic.{⊎_elim}
use mathlib.Core.List.{List, [], ◌∷◌, ◌++◌}
use native.Mathlib.Nat.{pow-suc, one-mul, zero-add}
use native.Mathlib.Omega.{arith}
use lib.Bits.{bit_xor, xor_shifted}
use lib.ListN.{length, get_or, length-append, get_or-append}
use lib.Seq.{get_or-append-add}
use Rattle.words.proofs.Cases.{lt_or_ge}
use Rattle.crc32.specs.Crc32.{bits_in}
use Rattle.crc32.specs.Slices.{slice_at, Slices}
use Rattle.crc32.proofs.Laws.{linear, zeros}

-- each word with b
unfoldable pub with : ℕ → List ℕ → List ℕ
with b [] = []
with b (x ∷ xs) = bit_xor b x ∷ with b xs

-- the first 2 ^ j words of table k, and n tables from table k on
unfoldable pub table : ℕ → ℕ → List ℕ
table k zero = 0 ∷ []
table k (suc j) = table k j ++ with (slice_at k (2 ^ j)) (table k j)

unfoldable pub tables : ℕ → ℕ → List ℕ
tables k zero = []
tables k (suc n) = table k 8 ++ tables (suc k) n

length_with : (b : ℕ) (xs : List ℕ) → length (with b xs) ≡ length xs
unfolding with
length_with b [] = refl
length_with b (x ∷ xs) = ap suc (length_with b xs)

with_at : (b : ℕ) (xs : List ℕ) (i : ℕ) → i < length xs → get_or (with b xs) i 0 ≡ bit_xor b (get_or xs i 0)
unfolding with
with_at b [] i l = absurd (omega arith)
with_at b (x ∷ xs) zero l = refl
with_at b (x ∷ xs) (suc i) l = with_at b xs i (omega arith)

-- bit j and the bits below it
sum_at : (k j r : ℕ) → r < 2 ^ j → bit_xor (slice_at k (2 ^ j)) (slice_at k r) ≡ slice_at k (2 ^ j + r)
unfolding slice_at
sum_at k j r l =
    sym (linear (8 * (k + 1)) (2 ^ j) r 0 0)
    ∙ ap (λ (x : ℕ). bits_in (8 * (k + 1)) x 0)
    (ap (λ (x : ℕ). bit_xor x r) (sym (one-mul (2 ^ j))) ∙ xor_shifted 1 j r l ∙ ap (λ (x : ℕ). x + r) (one-mul (2 ^ j)))

-- past the first part of a list
beyond : (xs ys : List ℕ) (n i : ℕ) → length xs ≡ n → get_or (xs ++ ys) (n + i) 0 ≡ get_or ys i 0
beyond xs ys n i e = ap (λ (m : ℕ). get_or (xs ++ ys) (m + i) 0) (sym e) ∙ get_or-append-add xs ys i 0

length_table : (k j : ℕ) → length (table k j) ≡ 2 ^ j
unfolding table
length_table k zero = refl
length_table k (suc j) =
    length-append (table k j) (with (slice_at k (2 ^ j)) (table k j))
    ∙ omega (arith, length_with (slice_at k (2 ^ j)) (table k j), length_table k j, pow-suc 2 j)

table_at : (k j i : ℕ) → i < 2 ^ j → get_or (table k j) i 0 ≡ slice_at k i
unfolding table slice_at
table_at k zero i l =
    let e : i ≡ 0 = omega arith in
    ap (λ (x : ℕ). get_or (0 ∷ []) x 0) e ∙ sym (zeros (8 * (k + 1))) ∙ ap (slice_at k) (sym e)
table_at k (suc j) i l =
    let b : ℕ = slice_at k (2 ^ j) in
    let n : length (table k j) ≡ 2 ^ j = length_table k j in
    ⊎_elim
    (λ (m : i < 2 ^ j). get_or-append (table k j) (with b (table k j)) 0 i (omega arith) ∙ table_at k j i m)
    (λ (m : 2 ^ j ≤ i).
    let e : i ≡ 2 ^ j + (i - 2 ^ j) = omega arith in
    let h : i - 2 ^ j < 2 ^ j = omega (arith, pow-suc 2 j) in
    ap (λ (x : ℕ). get_or (table k j ++ with b (table k j)) x 0) e
    ∙ beyond (table k j) (with b (table k j)) (2 ^ j) (i - 2 ^ j) n
    ∙ with_at b (table k j) (i - 2 ^ j) (omega arith)
    ∙ ap (bit_xor b) (table_at k j (i - 2 ^ j) h)
    ∙ sum_at k j (i - 2 ^ j) h
    ∙ ap (slice_at k) (sym e))
    (lt_or_ge i (2 ^ j))

length_tables : (k n : ℕ) → length (tables k n) ≡ 256 * n
unfolding tables
length_tables k zero = refl
length_tables k (suc n) =
    length-append (table k 8) (tables (suc k) n) ∙ omega (arith, length_table k 8, length_tables (suc k) n)

tables_at : (k n m i : ℕ) → m < n → i < 256 → get_or (tables k n) (256 * m + i) 0 ≡ slice_at (k + m) i
unfolding tables
tables_at k zero m i l h = absurd (omega arith)
tables_at k (suc n) zero i l h =
    let e : 256 * 0 + i ≡ i = omega arith in
    let s : k ≡ k + 0 = omega arith in
    ap (λ (x : ℕ). get_or (table k 8 ++ tables (suc k) n) x 0) e
    ∙ get_or-append (table k 8) (tables (suc k) n) 0 i (omega (arith, length_table k 8))
    ∙ table_at k 8 i h
    ∙ ap (λ (x : ℕ). slice_at x i) s
tables_at k (suc n) (suc m) i l h =
    let e : 256 * suc m + i ≡ 256 + (256 * m + i) = omega arith in
    let s : suc k + m ≡ k + suc m = omega arith in
    ap (λ (x : ℕ). get_or (table k 8 ++ tables (suc k) n) x 0) e
    ∙ beyond (table k 8) (tables (suc k) n) 256 (256 * m + i) (length_table k 8)
    ∙ tables_at (suc k) n m i (omega arith) h
    ∙ ap (λ (x : ℕ). slice_at x i) s

pub rule : (T : List ℕ) → T ≡ tables 0 4 → Slices T
rule T e =
    record {
      size = ap length e ∙ length_tables 0 4;
      each = λ k i l h. ap (λ (xs : List ℕ). get_or xs (256 * k + i) 0) e ∙ tables_at 0 4 k i l h ∙ ap (λ (x : ℕ). slice_at x i) (zero-add k);
    }
