use mathlib.Core.Path.{sym, ◌∙◌}
use native.Mathlib.Omega.{arith}
use Rattle.answer.proofs.Checks.{passed}
use Rattle.building.proofs.Laws.{passes_init_table}
use Rattle.building.proofs.init_table.Goals as goal

pub link-requires : goal.link-requires
link-requires c =
    omega (arith, (passes_init_table _ _ _ _ _ _ (sym c.check_init_table.ensures ∙ passed c.in_ok-check_init_table.was)).3)
