-- Refusals: the first of two, and what a code of 0 says of its test. Assumes nothing.
use Prim.Native.Nat.{ℕ, zero, suc, ◌<◌}
use mathlib.Core.Path.{◌≡◌, refl}
use mathlib.Core.Bool.{Bool, true, false, not}
use native.Mathlib.Nat.{suc-ne-zero}
use lib.Dec.{leb, eqb}
use borrow.Author.Tests.{leb-false, eqb-true, eqb-false, not-false}
use Rattle.words.specs.Words.{when, or}

-- ---- the first refusal of two
pub or_first : (c d : ℕ) → (c ≡ 0 → ⊥) → c ≡ or c d
unfolding or
or_first zero d h = absurd (h refl)
or_first (suc c) d h = refl

pub or_second : (c d : ℕ) → c ≡ 0 → d ≡ or c d
unfolding or
or_second zero d h = refl
or_second (suc c) d h = absurd (suc-ne-zero c h)

pub or_none : {c d : ℕ} → or c d ≡ 0 → (c ≡ 0) × (d ≡ 0)
unfolding or
or_none {c = zero} e = (refl, e)
or_none {c = suc c} e = absurd (suc-ne-zero c e)

-- ---- what a code of 0 says of its test
pub passes : (t : Bool) (c : ℕ) → when t (suc c) ≡ 0 → t ≡ false
passes true c e = absurd (suc-ne-zero c e)
passes false c e = refl

pub passes_not : (t : Bool) (c : ℕ) → when (not t) (suc c) ≡ 0 → t ≡ true
passes_not t c e = not-false t (passes (not t) c e)

pub in_range : (n p c : ℕ) → when (leb n p) (suc c) ≡ 0 → p < n
in_range n p c e = leb-false n p (passes (leb n p) c e)

pub is : (x y c : ℕ) → when (not (eqb x y)) (suc c) ≡ 0 → x ≡ y
is x y c e = eqb-true x y (passes_not (eqb x y) c e)

pub is_not : (x y c : ℕ) → when (eqb x y) (suc c) ≡ 0 → x ≡ y → ⊥
is_not x y c e = eqb-false x y (passes (eqb x y) c e)
