-- `all_rounds` makes the 64 rounds, sixteen at a time. Assumes nothing.
use Rattle.std.proofs.Common.{◌≡◌, length, refl, rules}
use Rattle.sha256.specs.Sha256.{K}
use Rattle.sha256.proofs.Sixteens.{sixty_four}
use Rattle.sha256.proofs.rounds.all_rounds.Goals as goal

pub returns : goal.returns
unfolding K
returns c =
    let whole : length c.args.b ≡ 16 = search rules in
    sixty_four
    c.args.b
    c.args.v0
    whole
    refl
    refl
    refl
    refl
    c.sixteen-v.ensures
    c.next16.ensures
    c.sixteen-v-2.ensures
    c.next16-2.ensures
    c.sixteen-v-3.ensures
    c.next16-3.ensures
    c.sixteen.ensures
