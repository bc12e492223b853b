-- Where a thread starts. Request #103: "A typing slip gave a thread an entry of 4097. InitThread shall answer 23 after the page checks when the
-- entry isn't a multiple of 4 or is at or above 2^30. Acceptance demands the same of every thread." Assumes nothing.
use Rattle.std.specs.Prelude.{ℕ, ◌≤◌, ◌<◌, ◌≡◌, List, get_or}
use Rattle.machine.specs.declared.Machine.{Machine}
use Rattle.ledger.specs.Names.{running_word, entry_word, free, space, thread, building}
use Rattle.ledger.specs.Ledger.{header, type_of, state_of, entry_of, put}
use Rattle.answer.specs.Refusals.{no_such_page, not_free, ill_fitting, bad_entry}
use Rattle.accept.specs.Accept.{Accepted}
use Rattle.records.specs.Records.{arg}
use Rattle.batch.specs.Batch.{obey}
use Rattle.batch.specs.Service.{Batched}
use Rattle.promises.specs.Terms.{code_of, Did}
use Rattle.promises.specs.Kept.{History, History.begin, History.called, History.outside}
use Rattle.promises.specs.Firsts.{MoreWords, Legal}
use Rattle.promises.specs.Jobs.{After}

-- page p is of type t; a thread; free
pub record Typed (b : Machine) (L : List ℕ) (t p : ℕ) : Type 0 where
  pub below : p < b.pages
  pub type : type_of L p ≡ t

abbrev pub IsThread : Machine → List ℕ → ℕ → Type 0
IsThread b L t = Typed b L thread t

abbrev pub IsFree : Machine → List ℕ → ℕ → Type 0
IsFree b L p = Typed b L free p

-- record W asks for a thread of a building space, while nobody runs: what is left to ask is the page, and the entry
pub record AsksThread (b : Machine) (L W : List ℕ) : Type 0 where
  pub asks : arg W 0 ≡ 3
  pub no_more_words : MoreWords 3 W → ⊥
  pub nobody : header L running_word ≡ 0
  pub space_below : arg W 1 < b.pages
  pub is_space : type_of L (arg W 1) ≡ space
  pub state : state_of L (arg W 1) ≡ building

-- along a history no Remove t is done
abbrev pub Unremoved : {b : Machine} {M₀ L₀ M L : List ℕ} → ℕ → History b M₀ L₀ M L → Type 0
Unremoved t begin = Unit {0}
Unremoved {b} t (called M L W h) = Unremoved t h × (Did b M L W 12 → arg W 1 ≡ t → ⊥)
Unremoved t (outside M M' L h x) = Unremoved t h

-- what Enter answers as r15
abbrev pub start_of : List ℕ → ℕ
start_of ans = get_or ans 16 0

pub record EntriesAreLegal : Type 0 where
  -- "Acceptance demands the same of every thread", of a stopped space's too
  pub every_thread : (b : Machine) (M L : List ℕ) (t : ℕ) → Accepted b M L → IsThread b L t → Legal (entry_of L t)
  -- it demands no more of it: in place of a thread's entry any legal one may stand
  pub any_legal : (b : Machine) (M L : List ℕ) (t entry : ℕ) → Accepted b M L → IsThread b L t → Legal entry → Accepted b M (put L t entry_word entry)
  -- so wherever a thread's entry is not legal, a batch answers 18 and every word lent stays, whatever else was right
  pub eighteen : (b : Machine) (M L W A M' L' A' : List ℕ) (r t : ℕ) → IsThread b L t → (Legal (entry_of L t) → ⊥) → Batched b M L W A r M' L' A'
      → (r ≡ ill_fitting) × (M' ≡ M) × (L' ≡ L) × (A' ≡ A)
  -- "after the page checks": a number from n on is told 1 and a page in use 2, whatever the entry; of a free page the entry decides
  pub no_page : (b : Machine) (M L W : List ℕ) → AsksThread b L W → b.pages ≤ arg W 2 → code_of (obey b M L W) ≡ no_such_page
  pub page_in_use : (b : Machine) (M L W : List ℕ) → AsksThread b L W → arg W 2 < b.pages → (type_of L (arg W 2) ≡ free → ⊥)
      → code_of (obey b M L W) ≡ not_free
  pub told : (b : Machine) (M L W : List ℕ) → AsksThread b L W → IsFree b L (arg W 2) → (Legal (arg W 3) → ⊥) → code_of (obey b M L W) ≡ bad_entry
  pub done : (b : Machine) (M L W : List ℕ) → AsksThread b L W → IsFree b L (arg W 2) → Legal (arg W 3) → code_of (obey b M L W) ≡ 0
  -- a thread that is entered starts at a legal entry, and until it is removed at the one with which it was made
  pub entered : After 9 (λ b M L W ans M' L'. Legal (start_of ans))
  pub as_made : (b : Machine) (M L W M' L' X : List ℕ) → Accepted b M L → Did b M L W 3
      → (h : History b (obey b M L W).mem (obey b M L W).led M' L') → Unremoved (arg W 2) h → Did b M' L' X 9 → arg X 1 ≡ arg W 2
      → start_of (obey b M' L' X).ans ≡ arg W 3
