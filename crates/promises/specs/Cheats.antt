-- Document 01, "Try these cheats": no service that cheats satisfies `Batched`, the relation that the exported batch ensures; and why demand 3
-- alone is not enough. Assumes nothing.
use Rattle.std.specs.Prelude.{ℕ, suc, ◌+◌, ◌*◌, ◌≡◌, List, get_or, length, take, replicate}
use Rattle.words.specs.Words.{record_words, padded}
use Rattle.machine.specs.declared.Machine.{Machine}
use Rattle.machine.specs.Machine.{map_start}
use Rattle.ledger.specs.Names.{count_word, blocks_word}
use Rattle.ledger.specs.Ledger.{header, rec}
use Rattle.accept.specs.Accept.{Accepted}
use Rattle.batch.specs.Batch.{obey}
use Rattle.batch.specs.Service.{Batched}
use Rattle.boot.specs.Boot.{fresh_ledger, fresh_memory}
use Rattle.box_a.specs.Shift.{box_a, shift, asked}

-- what a batch service leaves: its answer, the memory, the ledger, the answer list
pub record Left : Type 0 where
  pub says : ℕ
  pub mem : List ℕ
  pub led : List ℕ
  pub answers : List ℕ

-- a service: from the machine, memory, ledger, calls and answer list
abbrev pub Service : Type 0
Service = Machine → List ℕ → List ℕ → List ℕ → List ℕ → Left

-- it satisfies the relation on whatever is lent
abbrev pub Satisfies : Service → Type 0
Satisfies S =
    (b : Machine) (M L W A : List ℕ)
    → Batched b M L W A (S b M L W A).says (S b M L W A).mem (S b M L W A).led (S b M L W A).answers

-- some service does: what follows is not about nothing
abbrev pub SomebodyServes : Type 0
SomebodyServes = (S : Service) × Satisfies S

-- what a cheat does whenever it answers 0 to a list of one record or more
abbrev pub Always : (Machine → List ℕ → List ℕ → List ℕ → Left → Type 0) → Service → Type 0
Always P S =
    (b : Machine) (M L W A : List ℕ) (k : ℕ) → length W ≡ record_words * suc k → (S b M L W A).says ≡ 0 → P b M L W (S b M L W A)

abbrev pub Never : (Machine → List ℕ → List ℕ → List ℕ → Left → Type 0) → Type 0
Never P = (S : Service) → Satisfies S → Always P S → ⊥

-- "a monitor that refuses all": its first record is never done
pub record RefusesAll (b : Machine) (M L W : List ℕ) (o : Left) : Type 0 where
  pub never_done : get_or o.answers 0 0 ≡ 0 → ⊥

abbrev pub NobodyRefusesAll : Type 0
NobodyRefusesAll = Never RefusesAll

-- "one with a single reply": whatever is asked first in a state, one record, R, answers
pub record HasASingleReply (R : Machine → List ℕ → List ℕ → List ℕ) (b : Machine) (M L W : List ℕ) (o : Left) : Type 0 where
  pub one_reply : take record_words o.answers ≡ R b M L

abbrev pub NobodyHasASingleReply : Type 0
NobodyHasASingleReply = (R : Machine → List ℕ → List ℕ → List ℕ) → Never (HasASingleReply R)

-- "one that moves nothing"
pub record MovesNothing (b : Machine) (M L W : List ℕ) (o : Left) : Type 0 where
  pub same_memory : o.mem ≡ M
  pub same_ledger : o.led ≡ L

abbrev pub NobodyMovesNothing : Type 0
NobodyMovesNothing = Never MovesNothing

-- "one that plays the whole list at its first record": a first record that moves nothing is answered from the state in which the list ends
pub record PlaysAllAtOnce (b : Machine) (M L W : List ℕ) (o : Left) : Type 0 where
  pub from_the_end :
      (obey b M L (take record_words W)).mem ≡ M → (obey b M L (take record_words W)).led ≡ L
      → take record_words o.answers ≡ padded (obey b o.mem o.led (take record_words W)).ans

abbrev pub NobodyPlaysAllAtOnce : Type 0
NobodyPlaysAllAtOnce = Never PlaysAllAtOnce

-- "invented owned, block or free counts": after the first fifteen cases of the shift on box A the space owns 4 pages and has 66 blocks, pages
-- 5, 6 and 7 are free (224), and the fifteenth, FreePages, answered 3 and 5; whatever the key and the word v that the memory held throughout
pub record Counts (o : Left) : Type 0 where
  pub owned : rec o.led 0 count_word ≡ 4
  pub blocks : rec o.led 0 blocks_word ≡ 66
  pub free_word : header o.led map_start ≡ 224
  pub free_pages : get_or o.answers (record_words * 14 + 1) 0 ≡ 3
  pub lowest_page : get_or o.answers (record_words * 14 + 2) 0 ≡ 5

abbrev pub NobodyInventsCounts : Type 0
NobodyInventsCounts =
    (S : Service) → Satisfies S → (key A : List ℕ) (v : ℕ) → length key ≡ 8 → length A ≡ record_words * 15
    → Counts (S box_a (fresh_memory box_a (replicate 16384 v)) (fresh_ledger box_a key) (take (record_words * 15) (asked shift)) A)

-- why demand 3 alone is not enough: a service that moves nothing does keep acceptance
abbrev pub MovingNothingKeeps : Type 0
MovingNothingKeeps =
    (S : Service) → ((b : Machine) (M L W A : List ℕ) → ((S b M L W A).mem ≡ M) × ((S b M L W A).led ≡ L))
    → (b : Machine) (M L W A : List ℕ) → Accepted b M L → Accepted b (S b M L W A).mem (S b M L W A).led
