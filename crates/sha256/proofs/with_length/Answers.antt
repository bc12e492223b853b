-- `with_length` puts the length in the last two words. Assumes nothing.
use Rattle.std.proofs.Common.{arith, rules}
use Rattle.sha256.proofs.Padding.{length-put}
use borrow.Author.Rules.{rules}
use Rattle.sha256.proofs.with_length.Goals as goal

pub returns : goal.returns
returns c = length-put c.args.block c.args.n _ _ (search rules) (omega arith) (omega arith)
