use mathlib.Core.Path.{sym, ◌∙◌}
use native.Mathlib.Omega.{arith}
use lib.Seq.{ext_get_or}
use Rattle.words.proofs.Lists.{length-list_below, list_below_at}
use Rattle.words.specs.Words.{list_below}
use Rattle.machine.specs.Machine.{map_words}
use Rattle.boot.specs.Boot.{fresh_map}
use Rattle.boot.proofs.fresh_maps.Goals as goal

pub returns : goal.returns
returns c =
    let f = fresh_map c.args.b in
    let long = length-list_below map_words f in
    ext_get_or 0 c.loop-j.word-items (list_below map_words f) (c.loop-j-test.array_long ∙ sym long)
    (λ k l. c.loop-j.invariant k (omega (arith, c.loop-j-test.array_long)) ∙ sym (list_below_at map_words f k (omega (arith, c.loop-j-test.array_long))))
