-- What a measurement tells of a build. Request #105: "Two builds differed only in the write right and came out with one measurement."
-- The paper: "any change in an enclave's layout will be reflected in the hash." Entries, mapping words and the words copied are told. Tables,
-- spares, insecure mappings and page numbers are not measured, so no message tells of them. Assumes nothing.
use Rattle.std.specs.Prelude.{ℕ, ◌<◌, ◌%◌, ◌≡◌, ◌&&◌, ◌⊎◌, List, [], ◌∷◌, ◌++◌, eqb, length, get_or, replicate}
use Rattle.words.specs.Words.{pick}
use Rattle.machine.specs.declared.Machine.{Machine}
use Rattle.machine.specs.Machine.{frame_words}
use Rattle.sha256.specs.Sha256.{sha256}
use Rattle.ledger.specs.Ledger.{hash}
use Rattle.memory.specs.Memory.{frame, words_of}
use Rattle.accept.specs.Accept.{Accepted}
use Rattle.building.specs.Calls.{thread_block, map_block}
use Rattle.records.specs.Records.{arg}
use Rattle.batch.specs.Batch.{obey}
use Rattle.promises.specs.Terms.{code_of}
use Rattle.promises.specs.Kept.{History, History.begin, History.called, History.outside}
use Rattle.promises.specs.Measured.{Build, Build.unbegun, Build.begun, Build.broken_off, Build.closed, build_of}

-- a measured step: InitThread with its entry; MapSecure with its mapping word and the words copied
pub data Step : Type 0 where
  entry : ℕ → Step
  page : ℕ → List ℕ → Step

-- the pages among the steps have 1,024 words
abbrev pub Whole : List Step → Type 0
Whole [] = Unit {0}
Whole (entry e ∷ s) = Whole s
Whole (page map ws ∷ s) = (length ws ≡ frame_words) × Whole s

-- the message: the words of the steps, in order
unfoldable pub message : List Step → List ℕ
message [] = []
message (entry e ∷ s) = thread_block e ++ message s
message (page map ws ∷ s) = map_block map ++ ws ++ message s

-- a done record W that names the space, the memory just before it being M: InitAddrSpace begins, InitThread and MapSecure add a step
unfoldable pub added : List ℕ → List ℕ → List Step → List Step
added M W s =
    pick (eqb (arg W 0) 2) []
    (pick (eqb (arg W 0) 3) (s ++ entry (arg W 3) ∷ [])
    (pick (eqb (arg W 0) 6) (s ++ page (arg W 3) (words_of M (arg W 4)) ∷ []) s))

-- the steps of page a along a history: of its records, their answers and the memory just before each, and of nothing else
unfoldable pub steps_of : {b : Machine} {M₀ L₀ M L : List ℕ} → ℕ → History b M₀ L₀ M L → List Step
steps_of a begin = []
steps_of {b} a (called M L W h) =
    pick (eqb (code_of (obey b M L W)) 0 && eqb (arg W 1) a) (added M W (steps_of a h)) (steps_of a h)
steps_of a (outside M M' L h x) = steps_of a h

-- the words m are the message of the steps s
pub record Spells (s : List Step) (m : List ℕ) : Type 0 where
  pub whole : Whole s
  pub words : m ≡ message s

-- the words measured of a build are those of these steps; of a page on which the history began no space nothing is said
abbrev pub Built : List Step → Build → Type 0
Built s unbegun = Unit {0}
Built s (begun m) = Spells s m
Built s (broken_off m) = Spells s m
Built s (closed m) = Spells s m

pub record MessageTellsTheBuild : Type 0 where
  -- "MapSecure's second measured word becomes the whole mapping word."
  pub map_block_is : (map : ℕ) → map_block map ≡ 2 ∷ map ∷ replicate 14 0
  -- "then the 1,024 words copied": word by word those of the frame
  pub words : (M : List ℕ) (g k : ℕ) → k < frame_words → get_or (words_of M g) k 0 ≡ frame M g k
  -- along any history from an accepted state, what is measured of a space that it began is the message of the space's steps
  pub built : (b : Machine) (M₀ L₀ M L : List ℕ) (a : ℕ) → Accepted b M₀ L₀ → (h : History b M₀ L₀ M L) → Built (steps_of a h) (build_of a h)
  -- two lists of steps with one message are the same list
  pub same_steps : (s t : List Step) → Whole s → Whole t → message s ≡ message t → s ≡ t
  -- so two builds that differ in the rights of a page have two messages, though all else is alike
  pub rights : (s t : List Step) (map map' : ℕ) (ws : List ℕ) → (map % 8 ≡ map' % 8 → ⊥)
      → message (s ++ page map ws ∷ t) ≡ message (s ++ page map' ws ∷ t) → ⊥

-- space a of ledger L was begun, made by the steps s and finalised, along a history from an accepted state; m are the words measured
pub record Finished (L : List ℕ) (a : ℕ) (s : List Step) (m : List ℕ) : Type 0 where
  pub machine : Machine
  pub M₀ : List ℕ
  pub L₀ : List ℕ
  pub M : List ℕ
  pub accepted : Accepted machine M₀ L₀
  pub history : History machine M₀ L₀ M L
  pub steps : steps_of a history ≡ s
  pub words : build_of a history ≡ closed m

-- two messages, and one SHA-256: a collision, where all their words are below 2^32, as those that are lent are
pub record Collide (m m' : List ℕ) : Type 0 where
  pub two : m ≡ m' → ⊥
  pub one : sha256 m ≡ sha256 m'

-- two such spaces with one measurement, on whatever boxes: the same steps have made them, or two messages with one SHA-256 are in hand
abbrev pub MeasurementTellsTheBuild : Type 0
MeasurementTellsTheBuild =
    (L L' : List ℕ) (a a' : ℕ) (s s' : List Step) (m m' : List ℕ) → Finished L a s m → Finished L' a' s' m' → hash L a ≡ hash L' a'
    → (s ≡ s') ⊎ Collide m m'
