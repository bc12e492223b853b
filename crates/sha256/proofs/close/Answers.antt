-- `close` pads the rest, in one block or in two. Assumes nothing.
use Rattle.sha256.proofs.Padding.{close_one, close_two}
use Rattle.std.proofs.Common.{rules}
use borrow.Author.Rules.{rules}
use Rattle.sha256.proofs.close.Goals as goal

pub returns-then-at-lt14 : goal.returns-then-at-lt14
returns-then-at-lt14 c =
    close_one c.args.state c.args.rest.now c.args.n c.requires (search rules)
    c.with_zeros-b.ensures
    c.with_length.ensures
    c.compress.ensures

pub returns : goal.returns
returns c =
    close_two c.args.state c.args.rest.now c.args.n c.requires (search rules)
    c.with_zeros-b.ensures
    c.compress-2.ensures
    c.with_length-2.ensures
    c.compress-3.ensures
