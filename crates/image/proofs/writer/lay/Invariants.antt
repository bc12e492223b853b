-- The first words are laid.
use mathlib.Core.Path.{◌≡◌}
use lib.ListN.{length, take}
use Rattle.image.specs.Image.{block_bytes}
use Rattle.image.specs.Runs.{laid}
use Rattle.image.proofs.writer.lay.Given as goal

abbrev pub invariant-loop-i : goal.invariant-loop-i
invariant-loop-i l = (length l.block ≡ block_bytes) × (l.block ≡ laid l.initial.block l.k (take l.i l.ws))
