use Rattle.accept.proofs.Words.{record_shown, says_zeros}
use Rattle.accept.proofs.pages.zeros.Goals as goal

pub returns : goal.returns
returns c =
    says_zeros (record_shown c.args.led.now c.args.p c.args.hi c.requires) c.args.lo c.all_zero.result c.all_zero.ensures
