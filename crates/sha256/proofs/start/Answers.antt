-- `start` gives H(0). Assumes nothing.
use Rattle.std.proofs.Common.{refl}
use Rattle.sha256.specs.Sha256.{H0}
use Rattle.sha256.proofs.start.Goals as goal

pub returns : goal.returns
unfolding H0
returns c = refl
