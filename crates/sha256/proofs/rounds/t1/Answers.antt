-- `t1` gives T1. Assumes nothing.
use Rattle.sha256.specs.Sha256.{T1}
use Rattle.sha256.proofs.rounds.t1.Goals as goal

pub returns : goal.returns
unfolding T1
returns c = cc
