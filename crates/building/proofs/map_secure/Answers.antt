-- `map_secure` meets its contract: what is measured is read off the copy, and is what was copied.
use native.Mathlib.Omega.{arith}
use Rattle.memory.proofs.Frames.{words_copied}
use Rattle.answer.specs.Answer.{unless}
use Rattle.building.specs.Calls.{map_secure}
use Rattle.building.proofs.Steps.{copy_within, page_within, page_fits}
use Rattle.building.proofs.map_secure.Goals as goal

pub copy-requires : goal.copy-requires
copy-requires c =
    copy_within c.requires _ _ _ _ c.in_ok-check_map_secure.was c.check_map_secure.ensures c.frame-page.ensures

pub add_page-h-requires : goal.add_page-h-requires
add_page-h-requires c =
    page_within c.requires _ _ _ _ c.in_ok-check_map_secure.was c.check_map_secure.ensures c.frame-page.ensures c.copy.ensures

pub map_page-requires : goal.map_page-requires
map_page-requires c = page_fits c.requires _ _ _ _ c.in_ok-check_map_secure.was c.check_map_secure.ensures

pub returns : goal.returns
unfolding map_secure unless
returns c =
    let w = copy_within c.requires _ _ _ _ c.in_ok-check_map_secure.was c.check_map_secure.ensures c.frame-page.ensures in
    grind (arith, words_copied _ _ _ w.0 w.1)
