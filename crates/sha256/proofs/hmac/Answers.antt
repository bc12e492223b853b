-- `hmac` meets its definition. Assumes nothing.
use Rattle.sha256.specs.Hmac.{K0, hmac}
use Rattle.sha256.proofs.hmac.Goals as goal

pub returns : goal.returns
unfolding K0 hmac
returns c = cc
