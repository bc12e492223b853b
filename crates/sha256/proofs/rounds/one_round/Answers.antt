-- `one_round` makes one round. Assumes nothing.
use Rattle.sha256.specs.Sha256.{moved, round}
use Rattle.sha256.proofs.rounds.one_round.Goals as goal

pub returns : goal.returns
unfolding moved round
returns c = cc
