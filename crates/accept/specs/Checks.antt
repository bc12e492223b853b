-- What the parts of the acceptance check decide. A reader need not believe these: the check's own contract is `Says r (Accepted b M L)`,
-- and proofs/Parts.antt shows that the parts together are just that. Assumes nothing.
use Rattle.std.specs.Prelude.{ℕ, zero, suc, ◌+◌, ◌-◌, ◌*◌, ◌%◌, ◌≤◌, ◌<◌, ◌≡◌, Bool, true, false, List, length, get_or, Option, MatchOption}
use Rattle.words.specs.Words.{record_words, sum_below}
use Rattle.machine.specs.declared.Machine.{Machine}
use Rattle.machine.specs.Machine.{frame_words, Lent, most_pages}
use Rattle.mapping.specs.Mapping.{index_of, slot_of, rights_of, well_formed, most_tables}
use Rattle.ledger.specs.Names.{free_end, space, first_level, second_level, data_page, building, stopped, blocks_word, count_word, data_blocks, first_page_word, index_word, mapping_word, named_end, owned_end, owner_word, registers_word, state_word, suspended_word, thread_end, type_word}
use Rattle.walk.specs.Walk.{slot_word}
use Rattle.accept.specs.Accept.{Words, Zeros, SpaceRec, ThreadRec, Is, mapping_of, SlotOk, tally, counted, measured}

-- what is lent fits, and p is one of the pages
pub record Here (b : Machine) (M L : List ℕ) (p : ℕ) : Type 0 where
  pub lent : Lent b M L
  pub below : p < b.pages

-- ---- a page, by its type: its record, its owner, its memory, and its part of the tables
abbrev pub Wiped : Machine → Words → ℕ → Type 0
Wiped b m p = Zeros (m (b.secure + p)) 0 frame_words

pub record FreePage (b : Machine) (w m : Words) (p : ℕ) : Type 0 where
  pub rest : Zeros (w p) free_end record_words
  pub wiped : Wiped b m p

pub record SpacePage (b : Machine) (w m : Words) (p : ℕ) : Type 0 where
  pub layout : SpaceRec b.pages p (w p)
  pub wiped : Wiped b m p
  pub first : (w p state_word ≡ stopped → ⊥) → Is b w p first_level (w p first_page_word)

-- page p's owner is an address space, and its words from lo on are zero
pub record Owned (b : Machine) (w : Words) (lo p : ℕ) : Type 0 where
  pub owner : w p owner_word < b.pages
  pub is_space : w (w p owner_word) type_word ≡ space
  pub rest : Zeros (w p) lo record_words

pub record ThreadRules (w : Words) (p : ℕ) : Type 0 where
  pub layout : ThreadRec (w p)
  pub idle : w p suspended_word ≡ 0 → Zeros (w p) registers_word thread_end
  pub calm : w (w p owner_word) state_word ≡ building → w p suspended_word ≡ 0

pub record ThreadPage (b : Machine) (w m : Words) (p : ℕ) : Type 0 where
  pub owned : Owned b w thread_end p
  pub rules : ThreadRules w p
  pub wiped : Wiped b m p

-- what slot i of a first-level page of a may hold
pub record Names (b : Machine) (w : Words) (a i v : ℕ) : Type 0 where
  pub table : (T : ℕ) → v ≡ T + 1 → Is b w a second_level T × (w T index_word ≡ i)

-- a slot with rights r names frame f, that of a data page of a whose mapping word is address (i, j) and those rights
pub record Inside (b : Machine) (w : Words) (a i j f r : ℕ) : Type 0 where
  pub above : b.secure ≤ f
  pub page : Is b w a data_page (f - b.secure)
  pub map : w (f - b.secure) mapping_word ≡ mapping_of i j r

-- the slots of a first-level page or of a table that are looked at together
abbrev pub stretch : ℕ
stretch = 32

-- a list of slots that is whole stretches, of a page at most
pub record WholeStretches (ss : List ℕ) : Type 0 where
  pub whole : length ss % stretch ≡ 0
  pub few : length ss ≤ frame_words

-- a test takes each slot of ss that is in use; and each of them passes, or one does not
abbrev pub Used : List ℕ → ℕ → Type 0
Used ss j = (j < length ss) × (get_or ss j 0 ≡ 0 → ⊥)

abbrev pub SlotsTake : (ℕ → ℕ → Type 0) → List ℕ → Type 0
SlotsTake pre ss = (j : ℕ) → Used ss j → pre j (get_or ss j 0)

pub record SlotsPass (post : ℕ → ℕ → Bool → Type 0) (ss : List ℕ) (r : Bool) : Type 0 where
  pub all : r ≡ true → (j : ℕ) → Used ss j → post j (get_or ss j 0) true
  pub some : r ≡ false → (j : ℕ) × Used ss j × post j (get_or ss j 0) false

pub record FirstLinks (b : Machine) (w m : Words) (a p : ℕ) : Type 0 where
  pub only : w a first_page_word ≡ p
  pub names : (i : ℕ) → i < most_tables → Names b w a i (m (b.secure + p) i)
  pub rest : Zeros (m (b.secure + p)) most_tables frame_words

pub record SecondLinks (b : Machine) (w m : Words) (a p : ℕ) : Type 0 where
  pub named : m (b.secure + w a first_page_word) (w p index_word) ≡ p + 1
  pub slots : (j : ℕ) → j < frame_words → SlotOk b w a (w p index_word) j (m (b.secure + p) j)

-- data page d stands in the slot to which its mapping word leads from the first-level page of a
pub record Reached (b : Machine) (w m : Words) (a d : ℕ) : Type 0 where
  pub table : ℕ
  pub named : m (b.secure + w a first_page_word) (index_of (w d mapping_word)) ≡ table + 1
  pub slot : m (b.secure + table) (slot_of (w d mapping_word)) ≡ slot_word (b.secure + d) (rights_of (w d mapping_word))

-- page p's owner is not stopped
abbrev pub Going : Words → ℕ → Type 0
Going w p = w (w p owner_word) state_word ≡ stopped → ⊥

pub record FirstPage (b : Machine) (w m : Words) (p : ℕ) : Type 0 where
  pub owned : Owned b w owned_end p
  pub links : Going w p → FirstLinks b w m (w p owner_word) p

pub record SecondPage (b : Machine) (w m : Words) (p : ℕ) : Type 0 where
  pub owned : Owned b w named_end p
  pub index : w p index_word < most_tables
  pub links : Going w p → SecondLinks b w m (w p owner_word) p

pub record DataPage (b : Machine) (w m : Words) (p : ℕ) : Type 0 where
  pub owned : Owned b w named_end p
  pub formed : well_formed (w p mapping_word) ≡ true
  pub links : Going w p → Reached b w m (w p owner_word) p

pub record SparePage (b : Machine) (w m : Words) (p : ℕ) : Type 0 where
  pub owned : Owned b w owned_end p
  pub wiped : Wiped b m p

-- page p, of type t
unfoldable pub Page : Machine → Words → Words → ℕ → ℕ → Type 0
Page b w m p zero = FreePage b w m p
Page b w m p (suc zero) = SpacePage b w m p
Page b w m p (suc (suc zero)) = ThreadPage b w m p
Page b w m p (suc (suc (suc zero))) = FirstPage b w m p
Page b w m p (suc (suc (suc (suc zero)))) = SecondPage b w m p
Page b w m p (suc (suc (suc (suc (suc zero))))) = DataPage b w m p
Page b w m p (suc (suc (suc (suc (suc (suc zero)))))) = SparePage b w m p
Page b w m p (suc (suc (suc (suc (suc (suc (suc t))))))) = ⊥

abbrev pub Pages : Machine → Words → Words → Type 0
Pages b w m = (p : ℕ) → p < b.pages → Page b w m p (w p type_word)

-- ---- the counts of a space that owns so many other pages and has so many blocks to measure
pub record Count (n : ℕ) (w : Words) (a owned blocks : ℕ) : Type 0 where
  pub pages : w a count_word ≡ owned
  pub exact : w a state_word ≡ building → w a blocks_word ≡ blocks
  pub room : (w a state_word ≡ building → ⊥) → w a blocks_word ≤ data_blocks * n

abbrev pub Counts : ℕ → Words → Type 0
Counts n w = (a : ℕ) → a < n → w a type_word ≡ space → Count n w a (sum_below n (tally counted w a)) (sum_below n (tally measured w a))

-- the lowest space among the n pages, if there is one
abbrev pub NoSpace : ℕ → Words → Type 0
NoSpace n w = (a : ℕ) → a < n → w a type_word ≡ space → ⊥

abbrev pub LowestSpace : ℕ → Words → Option ℕ → Type 0
LowestSpace n w r = MatchOption r (NoSpace n w) (λ a. (a < n) × NoSpace a w)

-- both are summed in one word: pages owned, and blocks measured in steps that those do not reach
abbrev pub block_step : ℕ
block_step = 2 * most_pages

abbrev pub weight : ℕ → ℕ
weight t = counted t + block_step * measured t

-- an array with the sum for each owner
pub record Tallied (g : ℕ → ℕ) (w : Words) (n : ℕ) (c : List ℕ) : Type 0 where
  pub size : length c ≡ most_pages
  pub sums : (a : ℕ) → a < most_pages → get_or c a 0 ≡ sum_below n (tally g w a)
