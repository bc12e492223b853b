-- Document 01, "Calls, checks left to right": calls 1 and 9-13, asked by the untrusted system of an enclave that is built. Of each call its
-- refusals in order, then its effect, step by step. Assumes nothing.
use Rattle.std.specs.Prelude.{ℕ, ◌+◌, ◌*◌, not, List, [], ◌∷◌, ◌++◌, replicate, leb, eqb}
use Rattle.words.specs.Words.{pick, when, first, word_bits, sum_below, least_below, list_below}
use Rattle.machine.specs.declared.Machine.{Machine}
use Rattle.machine.specs.Machine.{map_words}
use Rattle.ledger.specs.Names.{state_word, suspended_word, registers_word, free, space, thread, spare, final, stopped}
use Rattle.ledger.specs.Ledger.{type_of, owner_of, state_of, count_of, entry_of, suspended_of, rec, map_bit, put, puts, vacate, lose, run}
use Rattle.memory.specs.Memory.{wiped}
use Rattle.answer.specs.declared.Answer.TheVariants.{Pair, Runs}
use Rattle.answer.specs.Refusals.{no_such_page, owner_not_final, not_thread, is_suspended, not_suspended, not_stopped, still_owns, already_free}
use Rattle.answer.specs.Answer.{Out, answers, done, gives, call, as_code}

-- ---- 1 GetPhysPages: n
unfoldable pub get_phys_pages : Machine → List ℕ → List ℕ → Out
get_phys_pages b M L = gives b.pages M L

-- ---- 9 Enter t, x, y, z: "≥ n 1; not a thread 10; owner not final 5; suspended 11"
unfoldable pub thread_code : Machine → List ℕ → ℕ → ℕ
thread_code b L t =
    first
    (when (leb b.pages t) no_such_page
    ∷ when (not (eqb (type_of L t) thread)) not_thread
    ∷ when (not (eqb (state_of L (owner_of L t)) final)) owner_not_final
    ∷ [])

unfoldable pub enter_code : Machine → List ℕ → ℕ → ℕ
enter_code b L t =
    first
    (thread_code b L t
    ∷ when (not (eqb (suspended_of L t) 0)) is_suspended
    ∷ [])

-- "runs; r0-r2 = x, y, z, r15 = entry, rest 0"
abbrev pub first_regs : ℕ → ℕ → ℕ → ℕ → List ℕ
first_regs entry x y z = x ∷ y ∷ z ∷ replicate 12 0 ++ (entry ∷ 0 ∷ [])

unfoldable pub enter_thread : Machine → List ℕ → List ℕ → ℕ → ℕ → ℕ → ℕ → Out
enter_thread b M L t x y z = call (enter_code b L t) M L (answers (Runs (first_regs (entry_of L t) x y z)) M (run L (t + 1)))

-- ---- 10 Resume t: "1; 10; 5; not suspended 12"
unfoldable pub resume_code : Machine → List ℕ → ℕ → ℕ
resume_code b L t =
    first
    (thread_code b L t
    ∷ when (eqb (suspended_of L t) 0) not_suspended
    ∷ [])

-- r0-r15 and the flags that thread t holds
abbrev pub saved_regs : List ℕ → ℕ → List ℕ
saved_regs L t = list_below 17 (λ i. rec L t (registers_word + i))

-- "runs; gives saved registers, clears them and word 3"
unfoldable pub resume : Machine → List ℕ → List ℕ → ℕ → Out
resume b M L t =
    call (resume_code b L t) M L
    (let L₁ = puts L t suspended_word (replicate 18 0) in
    answers (Runs (saved_regs L t)) M (run L₁ (t + 1)))

-- ---- 11 Stop a: "AS"; "stopped, from any state"
unfoldable pub stop : Machine → List ℕ → List ℕ → ℕ → Out
stop b M L a = call (as_code b L a) M L (done M (put L a state_word stopped))

-- ---- 12 Remove p: "1; free 22; space not stopped 13, still owns 14; other non-spare with owner not stopped 13"
unfoldable pub remove_space_code : List ℕ → ℕ → ℕ
remove_space_code L p =
    first
    (when (not (eqb (state_of L p) stopped)) not_stopped
    ∷ when (not (eqb (count_of L p) 0)) still_owns
    ∷ [])

unfoldable pub remove_other_code : List ℕ → ℕ → ℕ
remove_other_code L p = pick (eqb (type_of L p) spare) 0 (when (not (eqb (state_of L (owner_of L p)) stopped)) not_stopped)

unfoldable pub remove_code : Machine → List ℕ → ℕ → ℕ
remove_code b L p =
    first
    (when (leb b.pages p) no_such_page
    ∷ when (eqb (type_of L p) free) already_free
    ∷ pick (eqb (type_of L p) space) (remove_space_code L p) (remove_other_code L p)
    ∷ [])

-- "free, memory zero": a page other than a space leaves its owner's count
unfoldable pub left : List ℕ → ℕ → List ℕ
left L p = pick (eqb (type_of L p) space) L (lose L (owner_of L p))

unfoldable pub remove : Machine → List ℕ → List ℕ → ℕ → Out
remove b M L p = call (remove_code b L p) M L (done (wiped M (b.secure + p)) (vacate (left L p) p))

-- ---- 13 FreePages: "count, then lowest free page or n"
unfoldable pub free_count : List ℕ → ℕ
free_count L = sum_below (word_bits * map_words) (map_bit L)

unfoldable pub lowest_free : Machine → List ℕ → ℕ
lowest_free b L = pick (eqb (free_count L) 0) b.pages (least_below (word_bits * map_words) (map_bit L))

unfoldable pub free_pages : Machine → List ℕ → List ℕ → Out
free_pages b M L = answers (Pair (free_count L) (lowest_free b L)) M L
