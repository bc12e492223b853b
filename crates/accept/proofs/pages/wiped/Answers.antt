use Prim.Native.Nat.{◌+◌}
use Rattle.accept.proofs.Words.{page_shown, says_zeros}
use Rattle.accept.proofs.pages.wiped.Goals as goal

pub returns : goal.returns
returns c =
    says_zeros (page_shown c.args.mem.now (c.args.b.secure + c.args.p) c.requires c.page_words.ensures) 0
    c.all_zero.result c.all_zero.ensures
