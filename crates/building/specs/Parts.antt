-- Parts of the calls, each the contract of one function of the code. A reader need not believe these: the calls' own contracts cite
-- Calls.antt. Assumes nothing.
use Rattle.std.specs.Prelude.{ℕ, not, List, [], ◌∷◌}
use Rattle.words.specs.Words.{when, first}
use Rattle.machine.specs.declared.Machine.{Machine}
use Rattle.machine.specs.Machine.{insecure}
use Rattle.answer.specs.Refusals.{not_insecure}
use Rattle.answer.specs.Answer.{addr_code}
use Rattle.building.specs.declared.Added.{Added}
use Rattle.building.specs.declared.Added.TheVariants.{Thread, Page}
use Rattle.building.specs.Calls.{thread_block, map_block}

-- the block of 16 words that says what was added: a thread with its entry, a page with its mapping
abbrev pub block_of : Added → ℕ → List ℕ
block_of Thread entry = thread_block entry
block_of Page map = map_block map

-- MapSecure and MapInsecure: the slot, and the frame g
unfoldable pub place_code : Machine → List ℕ → ℕ → ℕ → ℕ → ℕ
place_code b M f map g =
    first
    (addr_code M b.secure f map
    ∷ when (not (insecure b g)) not_insecure
    ∷ [])
