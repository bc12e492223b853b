use mathlib.Core.Path.{sym, ◌∙◌}
use native.Mathlib.Omega.{arith}
use Rattle.answer.proofs.Checks.{passed}
use Rattle.building.proofs.Laws.{passes_map_insecure}
use Rattle.building.proofs.map_insecure.Goals as goal

pub slot_word-requires : goal.slot_word-requires
slot_word-requires c =
    let x = passes_map_insecure _ _ _ _ _ _ (sym c.check_map_insecure.ensures ∙ passed c.in_ok-check_map_insecure.was) in
    (omega (arith, x.6.below, c.requires.fits.frames_high), omega (arith, c.rights.ensures))
