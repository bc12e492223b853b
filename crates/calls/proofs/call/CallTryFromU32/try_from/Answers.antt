use borrow.Author.Rules.{rules}
use mathlib.Core.Path.{refl}
use Rattle.calls.specs.Table.{calls}
use Rattle.calls.proofs.Rows.{none_left}
use Rattle.calls.proofs.call.CallTryFromU32.try_from.Goals as goal

pub returns-in_default : goal.returns-in_default
unfolding calls
returns-in_default c = (refl, none_left c.args.word calls (search rules))
