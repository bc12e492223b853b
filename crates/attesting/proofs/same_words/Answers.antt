use Rattle.std.proofs.Common.{arith, ◌≡◌, sym, ap, ◌∙◌, ℕ, List, length, Bool, [], ◌∷◌}
use mathlib.Core.Bool.{◌&&◌, and-true, and_assoc}
use lib.Dec.{eqb}
use Rattle.attesting.specs.Calls.{same_words}
use Rattle.attesting.proofs.same_words.Goals as goal

one_more : (t : Bool) (x y : ℕ) (xs ys : List ℕ) → ((t && eqb x y) && same_words xs ys) ≡ (t && same_words (x ∷ xs) (y ∷ ys))
unfolding same_words
one_more t x y xs ys = and_assoc t _ _

none_left : (t : Bool) (xs ys : List ℕ) → length xs ≡ 0 → length ys ≡ 0 → t ≡ (t && same_words xs ys)
unfolding same_words
none_left t [] [] a b = sym (and-true t)
none_left t (x ∷ xs) ys a b = absurd (omega arith)
none_left t [] (y ∷ ys) a b = absurd (omega arith)

pub loop-x-preserved : goal.loop-x-preserved
loop-x-preserved c =
    let h = c.in-Some.ensures.steps in
    let l = c.loop-x.invariant in
    record { as_long = omega (arith, ap length h.0, ap length h.1); same = one_more _ _ _ _ _ ∙ (rw (h.0, h.1) at l.same) }

pub returns : goal.returns
returns c =
    let h = c.in-None.ensures.steps in
    let z : length c.loop-x.x-iterator.a.rest.now ≡ 0 = grind arith in
    none_left c.loop-x.same _ _ z (omega arith) ∙ c.loop-x.invariant.same
