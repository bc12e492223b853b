use mathlib.Core.Path.{sym, ap, ◌∙◌}
use lib.ListN.{length}
use Rattle.words.proofs.Lists.{length-list_below}
use Rattle.words.proofs.Paste.{part_pasted}
use Rattle.machine.specs.Machine.{map_words}
use Rattle.boot.specs.Boot.{fresh_map}
use Rattle.boot.proofs.Fresh.{ledger_made}
use Rattle.boot.proofs.fresh_ledger.Goals as goal

pub returns : goal.returns
returns c =
    let q = c.requires in
    let long = ap length c.fresh_maps.ensures ∙ length-list_below map_words (fresh_map c.args.b) in
    ledger_made _ _ _ q.0 q.1 (c.fill.ensures.after (λ y e. e))
    (part_pasted _ _ _ _ _ _ (sym q.0) c.copy_from_slice.ensures.after) c.fresh_maps.ensures (part_pasted _ _ _ _ _ _ (sym long) c.copy_from_slice-2.ensures.after)
