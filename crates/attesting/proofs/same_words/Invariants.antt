-- The words so far are the same, and so is what is left, exactly when all are.
use Rattle.std.proofs.Common.{◌≡◌, length}
use mathlib.Core.Bool.{◌&&◌}
use Rattle.attesting.specs.Calls.{same_words}
use Rattle.attesting.proofs.same_words.Given as goal

abbrev pub invariant-loop-x : goal.invariant-loop-x
invariant-loop-x l =
    let xs = l.x-iterator.a.rest.now in
    let ys = l.x-iterator.b.rest.now in
    record { as_long : length xs ≡ length ys; same : (l.same && same_words xs ys) ≡ same_words l.xs l.ys }
