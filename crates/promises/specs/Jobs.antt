-- What each call is for: one sentence a call, of a done call in an accepted state, by what is seen afterwards. Assumes nothing.
use Rattle.std.specs.Prelude.{ℕ, ◌+◌, ◌*◌, ◌/◌, ◌%◌, ◌^◌, ◌≤◌, ◌<◌, ◌≡◌, Bool, true, false, ◌⊎◌, List, [], ◌∷◌, ◌++◌, eqb, length, drop, replicate}
use Rattle.std.proofs.Math.Option.{some, none}
use Rattle.words.specs.Words.{pick, record_words, sum_below, all_zero}
use Rattle.machine.specs.declared.Machine.{Machine}
use Rattle.machine.specs.Machine.{frame_words}
use Rattle.mapping.specs.Mapping.{page_bytes}
use Rattle.ledger.specs.Names.{running_word, free, space, thread, first_level, second_level, data_page, spare, building, final, stopped, index_word, registers_word, flags_word}
use Rattle.ledger.specs.Ledger.{header, rec, type_of, owner_of, first_of, state_of, entry_of, suspended_of, map_of, key}
use Rattle.memory.specs.Memory.{frame}
use Rattle.answer.specs.Refusals.{interrupted, faulted}
use Rattle.accept.specs.Accept.{Is, Accepted}
use Rattle.records.specs.Records.{arg, args}
use Rattle.batch.specs.Batch.{obey}
use Rattle.boot.specs.Boot.{Booted}
use Rattle.promises.specs.Terms.{code_of, Did, Running, finds, OfSecure}
use Rattle.promises.specs.Kept.{History, History.begin, History.called, History.outside}

-- after call i is done in an accepted state, P holds of the state before, the record, the answer and the state after
abbrev pub After : ℕ → (Machine → (M L W ans M' L' : List ℕ) → Type 0) → Type 0
After i P =
    (b : Machine) (M L W : List ℕ) → Accepted b M L → Did b M L W i
    → P b M L W (obey b M L W).ans (obey b M L W).mem (obey b M L W).led

-- the same for a call of the enclave: the running space a is known
abbrev pub AfterBy : ℕ → (Machine → ℕ → (M L W ans M' L' : List ℕ) → Type 0) → Type 0
AfterBy i P =
    (b : Machine) (M L W : List ℕ) (a : ℕ) → Accepted b M L → Running L a → Did b M L W i
    → P b a M L W (obey b M L W).ans (obey b M L W).mem (obey b M L W).led

-- the words of secure page p are zero
abbrev pub Blank : Machine → List ℕ → ℕ → Type 0
Blank b M p = (k : ℕ) → k < frame_words → frame M (b.secure + p) k ≡ 0

-- ---- Boot: the key is the eight words handed in, every page is free, every secure word 0, every other frame as it was
pub record Fresh (b : Machine) (handed M M' L' : List ℕ) : Type 0 where
  pub nobody : header L' running_word ≡ 0
  pub the_key : key L' ≡ handed
  pub all_free : (p : ℕ) → p < b.pages → type_of L' p ≡ free
  pub zero : (p : ℕ) → p < b.pages → Blank b M' p
  pub others : (f k : ℕ) → f < b.frames → (OfSecure b f → ⊥) → k < frame_words → frame M' f k ≡ frame M f k

abbrev pub BootIsFor : Type 0
BootIsFor = (b : Machine) (handed M L M' L' : List ℕ) → Booted b handed M L 0 M' L' → Fresh b handed M M' L'

-- ---- 1 GetPhysPages: n
abbrev pub GetPhysPagesIsFor : Type 0
GetPhysPagesIsFor = After 1 (λ b M L W ans M' L'. ans ≡ 0 ∷ b.pages ∷ [])

-- ---- 2 InitAddrSpace a, f: a is a building space, f its first-level page, all zero, and it owns nothing else
pub record Founded (b : Machine) (M' L' : List ℕ) (a f : ℕ) : Type 0 where
  pub is_space : Is b (rec L') a space a
  pub state : state_of L' a ≡ building
  pub first : first_of L' a ≡ f
  pub is_first : Is b (rec L') a first_level f
  pub zero : Blank b M' f
  pub nothing_else : (q : ℕ) → q < b.pages → (type_of L' q ≡ free → ⊥) → owner_of L' q ≡ a → (q ≡ a) ⊎ (q ≡ f)

abbrev pub InitAddrSpaceIsFor : Type 0
InitAddrSpaceIsFor = After 2 (λ b M L W ans M' L'. Founded b M' L' (arg W 1) (arg W 2))

-- ---- 3 InitThread a, t, entry: t is a's thread with that entry, not suspended
pub record Threaded (b : Machine) (L' : List ℕ) (a t entry : ℕ) : Type 0 where
  pub is_thread : Is b (rec L') a thread t
  pub enters : entry_of L' t ≡ entry
  pub awake : suspended_of L' t ≡ 0

abbrev pub InitThreadIsFor : Type 0
InitThreadIsFor = After 3 (λ b M L W ans M' L'. Threaded b L' (arg W 1) (arg W 2) (arg W 3))

-- ---- 4 InitL2PTable a, p, i and 35 InitL2PTable p, i: page p is the space's table for index i, all its slots empty
pub record Tabled (b : Machine) (M' L' : List ℕ) (a p i : ℕ) : Type 0 where
  pub is_table : Is b (rec L') a second_level p
  pub index : rec L' p index_word ≡ i
  pub linked : frame M' (b.secure + first_of L' a) i ≡ p + 1
  pub empty : Blank b M' p

abbrev pub InitTableIsFor : Type 0
InitTableIsFor = After 4 (λ b M L W ans M' L'. Tabled b M' L' (arg W 1) (arg W 2) (arg W 3))

abbrev pub SpareTableIsFor : Type 0
SpareTableIsFor = AfterBy 35 (λ b a M L W ans M' L'. Tabled b M' L' a (arg W 1) (arg W 2))

-- ---- 5 AllocSpare a, p: p is a's spare
abbrev pub AllocSpareIsFor : Type 0
AllocSpareIsFor = After 5 (λ b M L W ans M' L'. Is b (rec L') (arg W 1) spare (arg W 2))

-- ---- 6, 7 and 36: at every aligned address of that page the space finds that frame with those rights, for a store where they have write
pub record Mapped (b : Machine) (M' L' : List ℕ) (a map f : ℕ) : Type 0 where
  pub load : (v : ℕ) → v % 4 ≡ 0 → v / page_bytes ≡ map / page_bytes → finds b M' L' a v false ≡ some (f * page_bytes + map % 8)
  pub store : (v : ℕ) → v % 4 ≡ 0 → v / page_bytes ≡ map / page_bytes → map / 2 % 2 ≡ 1 → finds b M' L' a v true ≡ some (f * page_bytes + map % 8)
  pub no_store : (v : ℕ) → v / page_bytes ≡ map / page_bytes → map / 2 % 2 ≡ 0 → finds b M' L' a v true ≡ none

-- 6 MapSecure a, p, map, frame: and p is a's data page, which holds the frame's words as they were
pub record MappedSecure (b : Machine) (M M' L' : List ℕ) (a p map g : ℕ) : Type 0 where
  pub is_data : Is b (rec L') a data_page p
  pub found : Mapped b M' L' a map (b.secure + p)
  pub words : (k : ℕ) → k < frame_words → frame M' (b.secure + p) k ≡ frame M g k

abbrev pub MapSecureIsFor : Type 0
MapSecureIsFor = After 6 (λ b M L W ans M' L'. MappedSecure b M M' L' (arg W 1) (arg W 2) (arg W 3) (arg W 4))

-- 7 MapInsecure a, map, frame: and it never executes
pub record MappedInsecure (b : Machine) (M' L' : List ℕ) (a map g : ℕ) : Type 0 where
  pub found : Mapped b M' L' a map g
  pub never_executes : map / 4 % 2 ≡ 0

abbrev pub MapInsecureIsFor : Type 0
MapInsecureIsFor = After 7 (λ b M L W ans M' L'. MappedInsecure b M' L' (arg W 1) (arg W 2) (arg W 3))

-- 36 MapData p, map: and p is the space's data page, all zero
pub record MappedData (b : Machine) (M' L' : List ℕ) (a p map : ℕ) : Type 0 where
  pub is_data : Is b (rec L') a data_page p
  pub found : Mapped b M' L' a map (b.secure + p)
  pub zero : Blank b M' p

abbrev pub MapDataIsFor : Type 0
MapDataIsFor = AfterBy 36 (λ b a M L W ans M' L'. MappedData b M' L' a (arg W 1) (arg W 2))

-- ---- 37 UnmapData p: at no address of its page the space finds anything, of any frame; p is the space's spare, all zero
pub record Unmapped (b : Machine) (M' L' : List ℕ) (a p map : ℕ) : Type 0 where
  pub gone : (v : ℕ) (write : Bool) → v / page_bytes ≡ map / page_bytes → finds b M' L' a v write ≡ none
  pub is_spare : Is b (rec L') a spare p
  pub zero : Blank b M' p

abbrev pub UnmapDataIsFor : Type 0
UnmapDataIsFor = AfterBy 37 (λ b a M L W ans M' L'. Unmapped b M' L' a (arg W 1) (map_of L (arg W 1)))

-- ---- 8 Finalise a: final. 11 Stop a: stopped
abbrev pub FinaliseIsFor : Type 0
FinaliseIsFor = After 8 (λ b M L W ans M' L'. state_of L' (arg W 1) ≡ final)

abbrev pub StopIsFor : Type 0
StopIsFor = After 11 (λ b M L W ans M' L'. state_of L' (arg W 1) ≡ stopped)

-- ---- 9 Enter t, x, y, z: t runs, with x, y, z and its entry, the other registers and the flags 0
pub record Entered (L W ans L' : List ℕ) : Type 0 where
  pub runs : header L' running_word ≡ arg W 1 + 1
  pub registers : ans ≡ 0 ∷ arg W 2 ∷ arg W 3 ∷ arg W 4 ∷ replicate 12 0 ++ (entry_of L (arg W 1) ∷ 0 ∷ [])

abbrev pub EnterIsFor : Type 0
EnterIsFor = After 9 (λ b M L W ans M' L'. Entered L W ans L')

-- ---- 39 Interrupt r0-r15, flags: nobody runs, and 32; the thread that ran is suspended with those registers and the flags' top four bits
pub record Interrupted (W ans L' : List ℕ) (t : ℕ) : Type 0 where
  pub nobody : header L' running_word ≡ 0
  pub answer : ans ≡ interrupted ∷ []
  pub asleep : suspended_of L' t ≡ 1
  pub saved : (j : ℕ) → j < 16 → rec L' t (registers_word + j) ≡ arg W (1 + j)
  pub flags : rec L' t flags_word ≡ arg W 17 / 2 ^ 28 * 2 ^ 28

abbrev pub InterruptIsFor : Type 0
InterruptIsFor =
    (b : Machine) (M L W : List ℕ) (t : ℕ) → Accepted b M L → length W ≡ record_words → header L running_word ≡ t + 1 → arg W 0 ≡ 39
    → all_zero (drop 18 W) ≡ true → Interrupted W (obey b M L W).ans (obey b M L W).led t

-- ---- 10 Resume t: the first done Resume t after an Interrupt of t, with no done Remove t between, gives exactly those sixteen registers and the
-- flags' top four bits, whatever records and outside changes came between
abbrev pub Spared : {b : Machine} {M₀ L₀ M L : List ℕ} → ℕ → History b M₀ L₀ M L → Type 0
Spared t begin = Unit {0}
Spared {b} t (called M L W h) = Spared t h × (Did b M L W 10 → arg W 1 ≡ t → ⊥) × (Did b M L W 12 → arg W 1 ≡ t → ⊥)
Spared t (outside M M' L h x) = Spared t h

pub record Resumed (W ans L' : List ℕ) (t : ℕ) : Type 0 where
  pub runs : header L' running_word ≡ t + 1
  pub registers : ans ≡ 0 ∷ args W 1 16 ++ (arg W 17 / 2 ^ 28 * 2 ^ 28 ∷ [])

abbrev pub ResumeIsFor : Type 0
ResumeIsFor =
    (b : Machine) (M L W M' L' X : List ℕ) (t : ℕ) → Accepted b M L → length W ≡ record_words → header L running_word ≡ t + 1
    → arg W 0 ≡ 39 → code_of (obey b M L W) ≡ interrupted
    → (h : History b (obey b M L W).mem (obey b M L W).led M' L') → Spared t h → Did b M' L' X 10 → arg X 1 ≡ t
    → Resumed W (obey b M' L' X).ans (obey b M' L' X).led t

-- ---- 12 Remove p: p is free and its words are zero
pub record Removed (b : Machine) (M' L' : List ℕ) (p : ℕ) : Type 0 where
  pub is_free : type_of L' p ≡ free
  pub record_zero : (k : ℕ) → k < record_words → rec L' p k ≡ 0
  pub zero : Blank b M' p

abbrev pub RemoveIsFor : Type 0
RemoveIsFor = After 12 (λ b M L W ans M' L'. Removed b M' L' (arg W 1))

-- ---- 13 FreePages: the number of pages of type free and the least of them, n where there is none, counted from the records
abbrev pub free_ones : List ℕ → ℕ → ℕ
free_ones L p = pick (eqb (type_of L p) free) 1 0

pub record FreeCounted (b : Machine) (L ans : List ℕ) : Type 0 where
  pub least : ℕ
  pub answer : ans ≡ 0 ∷ sum_below b.pages (free_ones L) ∷ least ∷ []
  pub most : least ≤ b.pages
  pub is_free : least < b.pages → type_of L least ≡ free
  pub none_below : (q : ℕ) → q < least → type_of L q ≡ free → ⊥

abbrev pub FreePagesIsFor : Type 0
FreePagesIsFor = After 13 (λ b M L W ans M' L'. FreeCounted b L ans)

-- ---- 32 GetRandom w: the word that came in
abbrev pub GetRandomIsFor : Type 0
GetRandomIsFor = After 32 (λ b M L W ans M' L'. ans ≡ 0 ∷ arg W 1 ∷ [])

-- ---- 38 Exit v: nobody runs, and v. 40 Fault: nobody runs, and 33
pub record Ended (ans L' says : List ℕ) : Type 0 where
  pub nobody : header L' running_word ≡ 0
  pub answer : ans ≡ says

abbrev pub ExitIsFor : Type 0
ExitIsFor = After 38 (λ b M L W ans M' L'. Ended ans L' (0 ∷ arg W 1 ∷ []))

abbrev pub FaultIsFor : Type 0
FaultIsFor =
    (b : Machine) (M L W : List ℕ) (a : ℕ) → Accepted b M L → Running L a → arg W 0 ≡ 40 → all_zero (drop 1 W) ≡ true
    → Ended (obey b M L W).ans (obey b M L W).led (faulted ∷ [])

-- ---- 42 Store v, w and then 41 Load v: the word stored, and no other word changed
pub record Stored (b : Machine) (M L M' L' W : List ℕ) : Type 0 where
  pub read_back : (X : List ℕ) → arg X 0 ≡ 41 → all_zero (drop 2 X) ≡ true → arg X 1 ≡ arg W 1 → (obey b M' L' X).ans ≡ 0 ∷ arg W 2 ∷ []
  pub in_frame : ℕ
  pub at_word : ℕ
  pub others : (f k : ℕ) → k < frame_words → (f ≡ in_frame → k ≡ at_word → ⊥) → frame M' f k ≡ frame M f k

abbrev pub StoreIsFor : Type 0
StoreIsFor = After 42 (λ b M L W ans M' L'. Stored b M L M' L' W)

-- ---- calls without a value (2 to 8, 11, 12, 35 to 37, 42) answer no more than that they are done, in any state
pub data Silent (i : ℕ) : Type 0 where
  builds : 2 ≤ i → i ≤ 8 → Silent i
  takes_down : 11 ≤ i → i ≤ 12 → Silent i
  maps : 35 ≤ i → i ≤ 37 → Silent i
  stores : i ≡ 42 → Silent i

abbrev pub DoneSaysNoMore : Type 0
DoneSaysNoMore = (b : Machine) (M L W : List ℕ) → Silent (arg W 0) → code_of (obey b M L W) ≡ 0 → (obey b M L W).ans ≡ 0 ∷ []
