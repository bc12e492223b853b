-- The facts of a map, for any number of words, and the ledger's own, at 32. Assumes nothing.
use mathlib.Core.Path.{refl, sym, ◌∙◌}
use mathlib.Core.Logic.{⊎_elim}
use Rattle.words.proofs.Cases.{lt_or_ge}
use Rattle.words.proofs.Maps as words
use Rattle.ledger.specs.Ledger.{rec, map_bit}
use Rattle.ledger.proofs.Ones.{map_at}
use Rattle.accept.proofs.FreeMap.{past_pages, in_use, is_free}
use Rattle.system.specs.Calls.{free_count}
use Rattle.kept.proofs.Facts.Exact.{exact_says}
use Rattle.kept.proofs.Facts.Bridge.{exact, bit_in, bit_says}
use Rattle.promises.specs.Maps.{MapsOfAnySize, MapOfTheLedger}
use Rattle.promises.proofs.Jobs.Free.{count_is}

pub maps_of_any_size : MapsOfAnySize
maps_of_any_size = words.map_facts

pub map_of_the_ledger : MapOfTheLedger
unfolding map_bit free_count
map_of_the_ledger =
    record {
      stands = λ L p. refl;
      one = λ b M L p ok l e. bit_says ok p (bit_in ok p l) ∙ sym (is_free b.pages (rec L) p l e);
      zero = λ b M L p ok few n.
          bit_says ok p few ∙ sym (⊎_elim (λ l. in_use b.pages (rec L) p l (n l)) (past_pages b.pages (rec L) p) (lt_or_ge p b.pages));
      counted = λ b M L ok. (maps_of_any_size 32).counted (map_at L) (exact_says (exact ok)).0 ∙ count_is ok;
    }
