-- Tests in order: a code is that of the first of some tests, whatever is tested after them. Assumes nothing.
use Prim.Native.Nat.{ℕ, zero, suc, ◌≤◌, ◌<◌}
use mathlib.Core.Path.{◌≡◌, refl, sym, subst}
use mathlib.Core.Bool.{Bool, true, false, not}
use mathlib.Core.Logic.{◌⊎◌, inl, inr, ⊎_elim}
use native.Mathlib.Omega.{arith}
use lib.Dec.{eqb, leb, ltb}
use borrow.Author.Tests.{eqb-true, eqb-false, leb-true, leb-false, ltb-true, ltb-false}
use Rattle.words.specs.Words.{Says, when, or}
use Rattle.promises.specs.Firsts.{Tests, ◌gives◌else◌, Not}

-- x is the code of the first of the tests P that holds, 0 where none does: where d obeys what comes after, the first of x and d obeys P and then that
pub record Firsts (P : Tests → Tests) (x : ℕ) : Type 1 where
  pub by : (after : Tests) (d : ℕ) → after d → P after (or x d)

-- no test; the first holds; the first does not hold, the others decide
pub none : Firsts (λ after. after) 0
unfolding or
none = record { by = λ after d h. h }

pub here : {T : Type 0} {P : Tests → Tests} {c : ℕ} → T → Firsts (λ after. T gives suc c else P after) (suc c)
unfolding or
here t = record { by = λ after d h. inl (t, refl) }

pub past : {T : Type 0} {P : Tests → Tests} {c x : ℕ} → (T → ⊥) → Firsts P x → Firsts (λ after. T gives c else P after) x
past n p = record { by = λ after d h. inr (n, p.by after d h) }

-- these tests, then those
pub or_assoc : (x y d : ℕ) → or (or x y) d ≡ or x (or y d)
unfolding or
or_assoc zero y d = refl
or_assoc (suc x) y d = refl

infixr 5 ◌then◌
pub ◌then◌ : {P Q : Tests → Tests} {x y : ℕ} → Firsts P x → Firsts Q y → Firsts (λ after. P (Q after)) (or x y)
◌then◌ {P} {Q} {x} {y} p q =
    record { by = λ after d h. subst (P (Q after)) (sym (or_assoc x y d)) (p.by (Q after) (or y d) (q.by after d h)) }

-- ---- one test, by what its answer says; two of one code
pub test : {T : Type 0} (t : Bool) (c : ℕ) → Says t T → Firsts (λ after. T gives suc c else after) (when t (suc c))
test true c s = here s
test false c s = past s none

pub not_says : (T : Type 0) (t : Bool) → Says t T → Says (not t) (Not T)
not_says T true s = λ n. n s
not_says T false s = s

pub says : {T : Type 0} (t : Bool) → (t ≡ true → T) → (t ≡ false → T → ⊥) → Says t T
says true y n = y refl
says false y n = n refl

pub eq_says : (x y : ℕ) → Says (eqb x y) (x ≡ y)
eq_says x y = says (eqb x y) (eqb-true x y) (eqb-false x y)

pub ne_says : (x y : ℕ) → Says (not (eqb x y)) (Not (x ≡ y))
ne_says x y = not_says (x ≡ y) (eqb x y) (eq_says x y)

pub lt_says : (x y : ℕ) → Says (ltb x y) (x < y)
lt_says x y = says (ltb x y) (ltb-true x y) (λ e l. omega (arith, ltb-false x y e))

pub test_eq : (x y c : ℕ) → Firsts (λ after. (x ≡ y) gives suc c else after) (when (eqb x y) (suc c))
test_eq x y c = test (eqb x y) c (eq_says x y)

pub test_ne : (x y c : ℕ) → Firsts (λ after. Not (x ≡ y) gives suc c else after) (when (not (eqb x y)) (suc c))
test_ne x y c = test (not (eqb x y)) c (ne_says x y)

pub test_le : (x y c : ℕ) → Firsts (λ after. (x ≤ y) gives suc c else after) (when (leb x y) (suc c))
test_le x y c = test (leb x y) c (says (leb x y) (leb-true x y) (λ e l. omega (arith, leb-false x y e)))

pub test_two : {T U : Type 0} (t u : Bool) (c : ℕ) → Says t T → Says u U
    → Firsts (λ after. (T ⊎ U) gives suc c else after) (or (when t (suc c)) (when u (suc c)))
unfolding or
test_two true u c s r = here (inl s)
test_two false true c s r = here (inr r)
test_two false false c s r = past (⊎_elim s r) none
