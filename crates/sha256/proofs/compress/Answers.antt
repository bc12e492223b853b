-- `compress` meets its definition. Assumes nothing.
use Rattle.sha256.specs.Sha256.{compress}
use Rattle.sha256.proofs.compress.Goals as goal

pub returns : goal.returns
unfolding compress
returns c = cc
