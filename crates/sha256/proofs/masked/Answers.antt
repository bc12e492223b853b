use Rattle.std.proofs.Common.{◌≡◌, ◌<◌, length, arith, rules, ◌∙◌, append-nil, take_all, drop_of_length-le}
use Rattle.std.proofs.lemmas.List.{get_or_default}
use Rattle.std.proofs.lemmas.List.Edits.{map_over_more}
use Rattle.sha256.specs.Sha256.{◌⊕◌}
use Rattle.sha256.specs.Hmac.{masked}
use Rattle.sha256.proofs.masked.Goals as goal

pub loop-w-preserved : goal.loop-w-preserved
loop-w-preserved c =
    let l = c.loop-w in
    let within : l.w-index < length l.w-items = omega arith in
    map_over_more (λ w. w ⊕ c.args.pad) c.args.k l.w-items l.w-index _ (search rules) l.invariant (get_or_default l.w-items l.w-index 0 _ within)

pub returns : goal.returns
unfolding masked
returns c =
    let k = c.args.k in
    let l : length k ≡ 16 = search rules in
    let e : c.loop-w.w-index ≡ 16 = omega arith in
    (rw (e, take_all 16 k (omega arith), drop_of_length-le k {i = 16} (omega arith)) at c.loop-w.invariant) ∙ append-nil _
