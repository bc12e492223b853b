-- `finish` closes with no rest. Assumes nothing.
use Rattle.sha256.proofs.Padding.{finish_whole}
use Rattle.sha256.proofs.finish.Goals as goal

pub returns : goal.returns
returns c =
    let a = c.args in
    finish_whole a.state a.blocks c.close.ensures
