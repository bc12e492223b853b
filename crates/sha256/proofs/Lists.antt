-- Lists that the padding and the pads make. Assumes nothing.
use Rattle.std.proofs.Common.{◌≡◌, ℕ, zero, suc, ◌+◌, ◌-◌, ◌<◌, ◌≤◌, List, [], ◌∷◌, ◌++◌, length, get_or, take, drop, set, replicate, refl, ◌∙◌, arith, length-set, drop_of_length-le, take-suc-set, take_at, drop_at}
use lib.ListN.{length-map, length-replicate, replicate-append-replicate}
use lib.Seq.{set_split, append_snoc}
use Rattle.sha256.specs.Sha256.{◌⊕◌}
use Rattle.sha256.specs.Hmac.{masked}

-- the front and the rest of a list of one word
pub take_same : (m n x : ℕ) → m ≤ n → take m (replicate n x) ≡ replicate m x
take_same m n x h =
    let e : m + (n - m) ≡ n = omega arith in
    rw (← (rw e at (replicate-append-replicate m (n - m) x))) (take_at (replicate m x) _ m (length-replicate m x))

pub drop_same : (m n x : ℕ) → m ≤ n → drop m (replicate n x) ≡ replicate (n - m) x
drop_same m n x h =
    let e : m + (n - m) ≡ n = omega arith in
    rw (← (rw e at (replicate-append-replicate m (n - m) x))) (drop_at (replicate m x) _ m (length-replicate m x))

-- a masked word
pub masked_at : (k : List ℕ) (p i : ℕ) → i < length k → get_or (masked k p) i 0 ≡ get_or k i 0 ⊕ p
unfolding masked
masked_at [] p i h = absurd (omega arith)
masked_at (x ∷ k) p zero h = refl
masked_at (x ∷ k) p (suc i) h = masked_at k p i (omega arith)

pub masked_length : (k : List ℕ) (p : ℕ) → length (masked k p) ≡ length k
unfolding masked
masked_length k p = simp length-map

-- the last two of 16 words
pub last_two : (b : List ℕ) (x y : ℕ) → length b ≡ 16 → set (set b 14 x) 15 y ≡ take 14 b ++ x ∷ y ∷ []
last_two b x y l =
    let m : length (set b 14 x) ≡ 16 = length-set b 14 x ∙ l in
    set_split (set b 14 x) 15 y (omega arith)
    ∙ rw (take-suc-set b 14 x (omega arith), drop_of_length-le (set b 14 x) {i = 16} (omega arith))
    (append_snoc (take 14 b) x (y ∷ []))
