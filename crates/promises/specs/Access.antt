-- Demand 3: "Any well-formed load or store by a running enclave either ends its run as a fault or touches one word, in a data page of that
-- enclave or an insecure frame its own table names. At no moment is a data page reached from two page addresses, nor by two enclaves,
-- stopped ones aside." Assumes nothing.
use Rattle.std.specs.Prelude.{ℕ, ◌+◌, ◌/◌, ◌%◌, ◌^◌, ◌<◌, ◌≡◌, Bool, true, false, ◌⊎◌, List, [], ◌∷◌, drop}
use Rattle.std.proofs.Math.Option.{some}
use Rattle.words.specs.Words.{all_zero}
use Rattle.machine.specs.declared.Machine.{Machine}
use Rattle.machine.specs.Machine.{Insecure}
use Rattle.mapping.specs.Mapping.{page_bytes}
use Rattle.ledger.specs.Ledger.{rec, type_of, state_of, run}
use Rattle.ledger.specs.Names.{space, second_level, data_page, stopped, index_word}
use Rattle.memory.specs.Memory.{frame, put_word}
use Rattle.answer.specs.Refusals.{faulted}
use Rattle.answer.specs.Answer.{Out}
use Rattle.accept.specs.Accept.{Is, Accepted}
use Rattle.records.specs.Records.{arg}
use Rattle.batch.specs.Batch.{obey}
use Rattle.promises.specs.Terms.{Running, finds}
use Rattle.promises.specs.Kept.{History}

-- space a, not stopped, reaches secure page d at address v: for a load there it finds a slot that names frame s + d
pub record Reaches (b : Machine) (M L : List ℕ) (a v d : ℕ) : Type 0 where
  pub below : a < b.pages
  pub is_space : type_of L a ≡ space
  pub going : state_of L a ≡ stopped → ⊥
  pub page : d < b.pages
  pub slot : ℕ
  pub found : finds b M L a v false ≡ some slot
  pub names : slot / page_bytes ≡ b.secure + d

-- of any two (space, address) pairs that reach one page, space and page address are the same
abbrev pub ReachedAlone : Type 0
ReachedAlone =
    (b : Machine) (M L : List ℕ) (a v a' v' d : ℕ) → Accepted b M L → Reaches b M L a v d → Reaches b M L a' v' d
    → (a ≡ a') × (v / page_bytes ≡ v' / page_bytes)

-- at no moment of a history is it otherwise
abbrev pub ReachedAloneAlways : Type 0
ReachedAloneAlways =
    (b : Machine) (M₀ L₀ M L : List ℕ) (a v a' v' d : ℕ) → Accepted b M₀ L₀ → History b M₀ L₀ M L → Reaches b M L a v d
    → Reaches b M L a' v' d → (a ≡ a') × (v / page_bytes ≡ v' / page_bytes)

-- a's own table has word x for address v: in the table of a's with v's index (bits 22 and up), at v's slot (bits 12-21), and it is not 0
pub record OwnSlot (b : Machine) (M L : List ℕ) (a v x : ℕ) : Type 0 where
  pub table : ℕ
  pub is_table : Is b (rec L) a second_level table
  pub index : rec L table index_word ≡ v / 2 ^ 22
  pub holds : frame M (b.secure + table) (v / 2 ^ 12 % 2 ^ 10) ≡ x
  pub full : x ≡ 0 → ⊥

-- and an access there may go through it: v is a multiple of 4, and x has the write right (bit 1) where the access is a store
pub record Allows (b : Machine) (M L : List ℕ) (a v : ℕ) (write : Bool) (x : ℕ) : Type 0 where
  pub aligned : v % 4 ≡ 0
  pub slot : OwnSlot b M L a v x
  pub right : write ≡ true → x / 2 % 2 ≡ 1

-- frame f is that of a data page of a's which a reaches at v, or it is insecure
pub data Open (b : Machine) (M L : List ℕ) (a v f : ℕ) : Type 0 where
  own : (d : ℕ) → Is b (rec L) a data_page d → Reaches b M L a v d → f ≡ b.secure + d → Open b M L a v f
  shared : Insecure b f → Open b M L a v f

-- the run ends as a fault, where nothing allows the access: the memory is as it was, and of the ledger only word 0 of the header changes
pub record Faults (b : Machine) (M L : List ℕ) (a v : ℕ) (write : Bool) (o : Out) : Type 0 where
  pub why : (x : ℕ) → Allows b M L a v write x → ⊥
  pub answer : o.ans ≡ faulted ∷ []
  pub memory : o.mem ≡ M
  pub ledger : o.led ≡ run L 0

-- one word is touched: that of address v in the frame of the slot which a's own table has for v; it is read, or w is put there, and nothing
-- else changes
pub record Loads (b : Machine) (M L : List ℕ) (a v : ℕ) (o : Out) : Type 0 where
  pub slot : ℕ
  pub allowed : Allows b M L a v false slot
  pub may : Open b M L a v (slot / page_bytes)
  pub answer : o.ans ≡ 0 ∷ frame M (slot / page_bytes) (v % page_bytes / 4) ∷ []
  pub memory : o.mem ≡ M
  pub ledger : o.led ≡ L

pub record Stores (b : Machine) (M L : List ℕ) (a v w : ℕ) (o : Out) : Type 0 where
  pub slot : ℕ
  pub allowed : Allows b M L a v true slot
  pub may : Open b M L a v (slot / page_bytes)
  pub answer : o.ans ≡ 0 ∷ []
  pub memory : o.mem ≡ put_word M (slot / page_bytes) (v % page_bytes / 4) w
  pub ledger : o.led ≡ L

-- while a thread of space a runs, W asks for a load (41), a store (42), with zeros after its arguments
pub record LoadBy (b : Machine) (M L W : List ℕ) (a : ℕ) : Type 0 where
  pub accepted : Accepted b M L
  pub runs : Running L a
  pub asks : arg W 0 ≡ 41
  pub zeros : all_zero (drop 2 W) ≡ true

pub record StoreBy (b : Machine) (M L W : List ℕ) (a : ℕ) : Type 0 where
  pub accepted : Accepted b M L
  pub runs : Running L a
  pub asks : arg W 0 ≡ 42
  pub zeros : all_zero (drop 3 W) ≡ true

abbrev pub LoadTouchesOneWord : Type 0
LoadTouchesOneWord =
    (b : Machine) (M L W : List ℕ) (a : ℕ) → LoadBy b M L W a
    → Faults b M L a (arg W 1) false (obey b M L W) ⊎ Loads b M L a (arg W 1) (obey b M L W)

abbrev pub StoreTouchesOneWord : Type 0
StoreTouchesOneWord =
    (b : Machine) (M L W : List ℕ) (a : ℕ) → StoreBy b M L W a
    → Faults b M L a (arg W 1) true (obey b M L W) ⊎ Stores b M L a (arg W 1) (arg W 2) (obey b M L W)

-- "the answer is of the slot alone": in any two boxes and states in which a's own table and a''s have the same for v, or both nothing, and
-- the word there is the same, a load is told the same, and so is a store
pub record SameSlot (b b' : Machine) (M L M' L' : List ℕ) (a a' v : ℕ) : Type 0 where
  pub there : (x : ℕ) → OwnSlot b M L a v x → OwnSlot b' M' L' a' v x
  pub back : (x : ℕ) → OwnSlot b' M' L' a' v x → OwnSlot b M L a v x
  pub word : (x : ℕ) → OwnSlot b M L a v x → frame M (x / page_bytes) (v % page_bytes / 4) ≡ frame M' (x / page_bytes) (v % page_bytes / 4)

abbrev pub AccessTellsNoMore : Type 0
AccessTellsNoMore =
    (b b' : Machine) (M L M' L' W : List ℕ) (a a' : ℕ) → SameSlot b b' M L M' L' a a' (arg W 1)
    → (LoadBy b M L W a × LoadBy b' M' L' W a') ⊎ (StoreBy b M L W a × StoreBy b' M' L' W a')
    → (obey b M L W).ans ≡ (obey b' M' L' W).ans
