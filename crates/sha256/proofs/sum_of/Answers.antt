-- `sum_of` adds word by word. Assumes nothing.
use Rattle.sha256.specs.Sha256.{sum_of}
use Rattle.sha256.proofs.sum_of.Goals as goal

pub returns : goal.returns
unfolding sum_of
returns c = cc
