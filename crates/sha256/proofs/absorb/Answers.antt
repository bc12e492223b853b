-- `absorb` takes the whole blocks in order. Assumes nothing.
use Rattle.std.proofs.Common.{◌≡◌, ◌/◌, ◌∷◌, [], length, arith, rules, refl, ◌∙◌}
use Rattle.std.proofs.lemmas.Fn.{fold_over, slice_gives, fronts}
use Rattle.std.proofs.lemmas.Grind.{fold-append}
use Rattle.std.specs.List.{fold}
use Rattle.std.specs.Simd.{first_chunks}
use Rattle.sha256.specs.Sha256.{compress, absorb}
use Rattle.sha256.proofs.Laws.{fold_blocks}
use Rattle.sha256.proofs.absorb.Goals as goal

pub returns : goal.returns
unfolding absorb
returns c =
    let m = c.args.words.now in
    let s = c.args.state in
    let all = c.iter.result.rest.now in
    let whole : all ≡ first_chunks 16 (length m / 16) m = search rules in
    let e : c.fold.result ≡ fold compress s all =
    fold_over fronts (λ y. y.now) _ (λ ys a. a ≡ fold compress s ys) _
    (λ ys a x b f' j k.
    let p : b ≡ compress a x.now = search rules in
    (rw (fold-append compress s ys (x.now ∷ []), ← j) p, search rules))
    c.iter.result all s c.fold.result (slice_gives c.iter.result) refl c.fold.ensures.ran in
    rw whole at e ∙ fold_blocks (length m / 16) s m (omega arith)
