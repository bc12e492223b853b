-- `choose` meets its contract: Ch by three operations. Assumes nothing.
use Rattle.sha256.proofs.Choice.{ch3}
use Rattle.std.proofs.Common.{rules}
use borrow.Author.Rules.{rules}
use Rattle.sha256.proofs.functions.choose.Goals as goal

pub returns : goal.returns
returns c = ch3 32 c.args.x c.args.y c.args.z (search rules) (search rules) (search rules)
