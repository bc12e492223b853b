-- `digest` meets its definition. Assumes nothing.
use Rattle.sha256.proofs.Padding.{digest_all}
use Rattle.sha256.proofs.digest.Goals as goal

pub returns : goal.returns
returns c =
    digest_all c.args.words.now c.start.ensures c.digest_on.ensures
