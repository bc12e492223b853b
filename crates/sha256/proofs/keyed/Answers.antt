-- `keyed` digests on from the block. Assumes nothing.
use Rattle.sha256.proofs.Padding.{digest_keyed}
use Rattle.std.proofs.Common.{rules}
use borrow.Author.Rules.{rules}
use Rattle.sha256.proofs.keyed.Goals as goal

pub returns : goal.returns
returns c =
    let a = c.args in
    digest_keyed a.block a.text.now (search rules) c.start.ensures c.compress.ensures c.digest_on.ensures
