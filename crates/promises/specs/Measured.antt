-- Demand 2: "Measurements are SHA-256." What a space's measurement is the hash of, along any history. Assumes nothing.
use Rattle.std.specs.Prelude.{ℕ, ◌*◌, ◌≡◌, ◌&&◌, List, [], ◌++◌, eqb, length}
use Rattle.words.specs.Words.{pick}
use Rattle.machine.specs.declared.Machine.{Machine}
use Rattle.sha256.specs.Sha256.{H0, absorb, sha256}
use Rattle.ledger.specs.Names.{space, building, stopped}
use Rattle.ledger.specs.Ledger.{type_of, state_of, blocks_of, hash}
use Rattle.memory.specs.Memory.{words_of}
use Rattle.accept.specs.Accept.{Accepted}
use Rattle.building.specs.Calls.{thread_block, map_block}
use Rattle.records.specs.Records.{arg}
use Rattle.batch.specs.Batch.{obey}
use Rattle.promises.specs.Terms.{code_of}
use Rattle.promises.specs.Kept.{History, History.begin, History.called, History.outside}

-- what a history has made of page a, with the words measured: no space that it began; one being built; one stopped before it was
-- finalised; one finalised
pub data Build : Type 0 where
  unbegun : Build
  begun : List ℕ → Build
  broken_off : List ℕ → Build
  closed : List ℕ → Build

-- words are added while it is built; finalised it is closed; stopped before that it is broken off
abbrev pub grown : List ℕ → Build → Build
grown vs unbegun = unbegun
grown vs (begun m) = begun (m ++ vs)
grown vs (broken_off m) = broken_off m
grown vs (closed m) = closed m

abbrev pub finalising : Build → Build
finalising unbegun = unbegun
finalising (begun m) = closed m
finalising (broken_off m) = broken_off m
finalising (closed m) = closed m

abbrev pub stopping : Build → Build
stopping unbegun = unbegun
stopping (begun m) = broken_off m
stopping (broken_off m) = broken_off m
stopping (closed m) = closed m

-- a done record W that names the space, the memory just before it being M: InitAddrSpace begins, InitThread and MapSecure add their blocks,
-- then Finalise, Stop, Remove; every other call leaves it
unfoldable pub stepped : List ℕ → List ℕ → Build → Build
stepped M W x =
    pick (eqb (arg W 0) 2) (begun [])
    (pick (eqb (arg W 0) 3) (grown (thread_block (arg W 3)) x)
    (pick (eqb (arg W 0) 6) (grown (map_block (arg W 3) ++ words_of M (arg W 4)) x)
    (pick (eqb (arg W 0) 8) (finalising x)
    (pick (eqb (arg W 0) 11) (stopping x)
    (pick (eqb (arg W 0) 12) unbegun x)))))

-- along a history: of its records, their answers and the memory just before each, and of nothing else
unfoldable pub build_of : {b : Machine} {M₀ L₀ M L : List ℕ} → ℕ → History b M₀ L₀ M L → Build
build_of a begin = unbegun
build_of {b} a (called M L W h) =
    pick (eqb (code_of (obey b M L W)) 0 && eqb (arg W 1) a) (stepped M W (build_of a h)) (build_of a h)
build_of a (outside M M' L h x) = build_of a h

-- page a is a space whose state is as asked, whose hash is h, and whose count is that of the blocks of m: no sum has wrapped
pub record Holds (L : List ℕ) (a : ℕ) (State : ℕ → Type 0) (h m : List ℕ) : Type 0 where
  pub is_space : type_of L a ≡ space
  pub state : State (state_of L a)
  pub words : hash L a ≡ h
  pub blocks : 16 * blocks_of L a ≡ length m

-- what the ledger L then says of page a, L₀ being the history's first
abbrev pub Measures : List ℕ → List ℕ → ℕ → Build → Type 0
Measures L₀ L a unbegun = (type_of L₀ a ≡ space → ⊥) → type_of L a ≡ space → ⊥
Measures L₀ L a (begun m) = Holds L a (λ s. s ≡ building) (absorb H0 m) m
Measures L₀ L a (broken_off m) = Holds L a (λ s. s ≡ stopped) (absorb H0 m) m
Measures L₀ L a (closed m) = Holds L a (λ s. s ≡ building → ⊥) (sha256 m) m

abbrev pub MeasurementIsSha256 : Type 0
MeasurementIsSha256 =
    (b : Machine) (M₀ L₀ M L : List ℕ) (a : ℕ) → Accepted b M₀ L₀ → (h : History b M₀ L₀ M L) → Measures L₀ L a (build_of a h)
