-- Sums of f 0 .. f (n - 1), and the least number at which f is not 0. Assumes nothing.
use Prim.Native.Nat.{ℕ, zero, suc, ◌+◌, ◌-◌, ◌*◌, ◌≤◌, ◌<◌, suc-le-suc}
use mathlib.Core.Path.{◌≡◌, refl, sym, ap, ap₂, ◌∙◌}
use native.Mathlib.Nat.{add-suc, add-zero, zero-lt-suc, not-suc-le-zero, le_of_suc-le-suc, eq-or-lt_of_le}
use native.Mathlib.Omega.{arith}
use lib.Count.{under}
use native.Mathlib.Numerals.{add-one}
use mathlib.Core.Logic.{⊎_elim}
use Rattle.words.specs.Words.{sum_below, least_below}
use Rattle.words.proofs.Cases.{lt_or_ge}

-- ---- sums
pub sum_ext : (n : ℕ) (f g : ℕ → ℕ) → ((i : ℕ) → i < n → f i ≡ g i) → sum_below n f ≡ sum_below n g
unfolding sum_below
sum_ext zero f g h = refl
sum_ext (suc n) f g h = ap₂ (λ (x y : ℕ). x + y) (sum_ext n f g (λ i l. h i (omega arith))) (h n (omega arith))

pub sum_suc : (n : ℕ) (f : ℕ → ℕ) → sum_below (n + 1) f ≡ sum_below n f + f n
unfolding sum_below
sum_suc n f = rw (add-one n)

pub sum_add : (a b : ℕ) (f : ℕ → ℕ) → sum_below (a + b) f ≡ sum_below a f + sum_below b (λ i. f (a + i))
unfolding sum_below
sum_add a zero f = rw (add-zero a) (omega arith)
sum_add a (suc b) f = rw (add-suc a b) (omega (arith, sum_add a b f))

-- the first apart, where the definition has the last apart
pub sum_first : (n : ℕ) (f : ℕ → ℕ) → sum_below (suc n) f ≡ f 0 + sum_below n (λ i. f (suc i))
unfolding sum_below
sum_first zero f = omega arith
sum_first (suc n) f = omega (arith, sum_first n f)

pub sum_le : (n : ℕ) (f : ℕ → ℕ) → ((i : ℕ) → f i ≤ 1) → sum_below n f ≤ n
unfolding sum_below
sum_le zero f h = omega arith
sum_le (suc n) f h = omega (arith, sum_le n f h, h n)

-- two functions that agree below n but at p: what the sums differ by
pub sum_change : (n p : ℕ) (f g : ℕ → ℕ) → p < n → ((q : ℕ) → q < n → (q ≡ p → ⊥) → f q ≡ g q) → sum_below n f + g p ≡ sum_below n g + f p
unfolding sum_below
sum_change zero p f g l e = absurd (not-suc-le-zero l)
sum_change (suc n) p f g l e =
    ⊎_elim
    (λ (q : p ≡ n).
    let s : sum_below n f ≡ sum_below n g = sum_ext n f g (λ x lx. e x (omega arith) (omega arith)) in
    let a : f n ≡ f p = ap f (sym q) in
    let c : g n ≡ g p = ap g (sym q) in
    omega arith)
    (λ (lt : p < n).
    let s : sum_below n f + g p ≡ sum_below n g + f p = sum_change n p f g lt (λ x lx ne. e x (omega arith) ne) in
    let a : f n ≡ g n = e n (omega arith) (omega arith) in
    omega arith)
    (eq-or-lt_of_le (le_of_suc-le-suc l))

-- a sum is at most the bound of its parts, n times
pub sum_bound : (n c : ℕ) (f : ℕ → ℕ) → ((q : ℕ) → f q ≤ c) → sum_below n f ≤ c * n
unfolding sum_below
sum_bound zero c f e = omega arith
sum_bound (suc n) c f e = omega (arith, sum_bound n c f e, e n)

pub sum_const : (n c : ℕ) → sum_below n (λ i. c) ≡ c * n
unfolding sum_below
sum_const zero c = omega arith
sum_const (suc n) c = omega (arith, sum_const n c)

pub sum_zero : (n : ℕ) (f : ℕ → ℕ) → ((i : ℕ) → i < n → f i ≡ 0) → sum_below n f ≡ 0
sum_zero n f z = sum_ext n f (λ i. 0) z ∙ omega (arith, sum_const n 0)

-- zero from n on
pub sum_cut : (n m : ℕ) (f : ℕ → ℕ) → n ≤ m → ((i : ℕ) → n ≤ i → i < m → f i ≡ 0) → sum_below m f ≡ sum_below n f
sum_cut n m f l z =
    ap (λ (x : ℕ). sum_below x f) {x = m} {y = n + (m - n)} (omega arith)
    ∙ sum_add n (m - n) f
    ∙ omega (arith, sum_zero (m - n) (λ i. f (n + i)) (λ i h. z (n + i) (omega arith) (omega arith)))

-- zero everywhere but at p
pub sum_point : (n p : ℕ) (f : ℕ → ℕ) → p < n → ((q : ℕ) → q < n → (q ≡ p → ⊥) → f q ≡ 0) → sum_below n f ≡ f p
sum_point n p f l e = omega (arith, sum_change n p f (λ q. 0) l e, sum_const n 0)

-- a sum is at least each of its parts
pub sum_ge : (n p : ℕ) (f : ℕ → ℕ) → p < n → f p ≤ sum_below n f
unfolding sum_below
sum_ge zero p f l = absurd (not-suc-le-zero l)
sum_ge (suc n) p f l =
    ⊎_elim (λ (e : p ≡ n). let a : f p ≡ f n = ap f e in omega arith) (λ (lt : p < n). let s = sum_ge n p f lt in omega arith)
    (eq-or-lt_of_le (le_of_suc-le-suc l))

-- ---- least numbers
pub least_step : (n : ℕ) (f : ℕ → ℕ) → least_below (suc n) f ≡ under (f 0) (least_below n (λ i. f (suc i)))
unfolding least_below
least_step n f = go (f 0) (least_below n (λ i. f (suc i)))
  where
    go : (x t : ℕ) → elim x [ zero ↦ suc t | suc v ↦ 0 ] ≡ under x t
    go zero t = refl
    go (suc x) t = refl

pub least_ext : (n : ℕ) (f g : ℕ → ℕ) → ((i : ℕ) → i < n → f i ≡ g i) → least_below n f ≡ least_below n g
unfolding least_below
least_ext zero f g h = refl
least_ext (suc n) f g h =
    least_step n f
    ∙ ap₂ under (h 0 (zero-lt-suc n)) (least_ext n (λ i. f (suc i)) (λ i. g (suc i)) (λ i l. h (suc i) (suc-le-suc l)))
    ∙ sym (least_step n g)

-- below it f is 0, and at it, where it is below n, f is not
pub least_below_lem : (n : ℕ) (f : ℕ → ℕ) (q : ℕ) → q < least_below n f → f q ≡ 0
unfolding least_below
least_below_lem zero f q l = absurd (omega arith)
least_below_lem (suc n) f q l = go (f 0) refl q (rw least_step at l) (least_below_lem n (λ i. f (suc i)))
  where
    go : (x : ℕ) → f 0 ≡ x → (q : ℕ) → q < under x (least_below n (λ i. f (suc i)))
        → ((q : ℕ) → q < least_below n (λ i. f (suc i)) → f (suc q) ≡ 0) → f q ≡ 0
    go zero e zero l ih = e
    go zero e (suc q) l ih = ih q (omega arith)
    go (suc x) e q l ih = absurd (omega arith)

pub least_at : (n : ℕ) (f : ℕ → ℕ) → least_below n f < n → f (least_below n f) ≡ 0 → ⊥
unfolding least_below
least_at zero f l = absurd (omega arith)
least_at (suc n) f l = rw least_step (go (f 0) refl (rw least_step at l) (least_at n (λ i. f (suc i))))
  where
    go : (x : ℕ) → f 0 ≡ x → under x (least_below n (λ i. f (suc i))) < suc n
        → (least_below n (λ i. f (suc i)) < n → f (suc (least_below n (λ i. f (suc i)))) ≡ 0 → ⊥) → f (under x (least_below n (λ i. f (suc i)))) ≡ 0 → ⊥
    go zero e l ih = ih (omega arith)
    go (suc x) e l ih = λ z. omega arith

-- which settles it
pub least_is : (n : ℕ) (f : ℕ → ℕ) (x : ℕ) → x < n → ((i : ℕ) → i < x → f i ≡ 0) → (f x ≡ 0 → ⊥) → least_below n f ≡ x
least_is n f x l below at =
    ⊎_elim (λ m. absurd (least_at n f (omega arith) (below (least_below n f) m)))
    (λ m. ⊎_elim (λ h. absurd (at (least_below_lem n f x h))) (λ h. omega arith) (lt_or_ge x (least_below n f))) (lt_or_ge (least_below n f) x)

pub least_none : (n : ℕ) (f : ℕ → ℕ) → ((i : ℕ) → i < n → f i ≡ 0) → least_below n f ≡ n
unfolding least_below
least_none zero f z = refl
least_none (suc n) f z = least_step n f ∙ ap₂ under (z 0 (omega arith)) (least_none n (λ i. f (suc i)) (λ i l. z (suc i) (omega arith)))
