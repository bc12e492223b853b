use Rattle.std.proofs.lemmas.List.{take_at, drop_at, append-nil}
use Rattle.attesting.proofs.joined.Goals as goal

pub returns : goal.returns
returns c = rw (c.copy_from_slice.ensures.after, c.copy_from_slice-2.ensures.after, take_at c.args.m.now _ 8 c.told-m, drop_at c.args.m.now _ 8 c.told-m) (simp append-nil)
