-- `digest_on` absorbs the whole blocks and closes with the rest. Assumes nothing.
use Rattle.sha256.proofs.Padding.{digest_rest}
use Rattle.sha256.proofs.digest_on.Goals as goal

pub returns : goal.returns
returns c =
    let a = c.args in
    digest_rest a.state a.words.now a.before c.absorb.ensures c.as_chunks.ensures.back c.close.ensures
