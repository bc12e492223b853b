-- `walk` meets its contract: a cycle of one call, in which the level falls.
use Rattle.walk.proofs.+walk.Given as goal

abbrev pub decreases-walk : goal.decreases-walk
decreases-walk l = l.level
