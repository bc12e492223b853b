-- What a test's answer, once known, says of its demand. Assumes nothing.
use mathlib.Core.Path.{◌≡◌, subst}
use mathlib.Core.Bool.{Bool, true, false, not}
use Prim.Native.Nat.{ℕ}
use native.Mathlib.Decide.{ℕ_discrete}
use lib.Dec.{eqb}
use borrow.Author.Tests.{eq-eqb, ne_eqb, not-true, not-false}
use Rattle.words.specs.Words.{Says}

-- a test that said yes, and one that said no
pub yes_holds : {C : Type 0} (r : Bool) → Says r C → r ≡ true → C
yes_holds {C} r s e = subst (λ (t : Bool). Says t C) e s

pub no_fails : {C : Type 0} (r : Bool) → Says r C → r ≡ false → C → ⊥
no_fails {C} r s e = subst (λ (t : Bool). Says t C) e s

-- the same where the code tests `!r`
pub refused_fails : {C : Type 0} (r : Bool) → Says r C → not r ≡ true → C → ⊥
refused_fails r s e = no_fails r s (not-true r e)

pub passed_holds : {C : Type 0} (r : Bool) → Says r C → not r ≡ false → C
passed_holds r s e = yes_holds r s (not-false r e)

-- of a demand a test says what it says of another that holds where it does
pub says_same : {C D : Type 0} (q : Bool) → (C → D) → (D → C) → Says q C → Says q D
says_same true to from x = to x
says_same false to from n = λ x. n (from x)

-- a test whether two numbers are the same, of a demand that holds where they are
pub says_same_number : {C : Type 0} (x y : ℕ) → (x ≡ y → C) → (C → x ≡ y) → Says (eqb x y) C
says_same_number x y to from = elim (ℕ_discrete x y) [ yes e ↦ rw (eq-eqb x y e) (to e) | no n ↦ rw (ne_eqb x y n) (λ c. n (from c)) ]
