-- Where a thread may start. Request #103: InitThread refuses "when the entry isn't a multiple of 4 or is at or above 2^30. Acceptance demands
-- the same of every thread." Assumes nothing.
use Rattle.std.specs.Prelude.{Bool, ◌&&◌, ℕ, ◌%◌, eqb, ltb}
use Rattle.mapping.specs.Mapping.{address_end}

-- a legal entry: a multiple of 4 below 2^30
unfoldable pub legal_entry : ℕ → Bool
legal_entry entry = eqb (entry % 4) 0 && ltb entry address_end
