-- Document 01, "Calls, checks left to right": calls 35-42, asked by the running enclave. They "act for the running thread's owner".
-- Assumes nothing.
use Rattle.std.specs.Prelude.{ℕ, ◌+◌, ◌*◌, ◌/◌, ◌^◌, true, false, not, List, [], ◌∷◌, ◌++◌, get_or, take, leb, eqb, Option, Some, None}
use Rattle.words.specs.Words.{when, first}
use Rattle.machine.specs.declared.Machine.{Machine}
use Rattle.mapping.specs.Mapping.{well_formed}
use Rattle.ledger.specs.Names.{suspended_word, second_level, data_page, spare}
use Rattle.ledger.specs.Ledger.{type_of, owner_of, first_of, map_of, puts, anew, run}
use Rattle.memory.specs.Memory.{frame, put_word, wiped}
use Rattle.walk.specs.Walk.{translate, frame_of, word_of, filled, mapped, linked}
use Rattle.answer.specs.declared.Answer.TheVariants.{Interrupted, Faulted}
use Rattle.answer.specs.Refusals.{no_such_page, ill_formed, not_own_spare, not_own_data}
use Rattle.answer.specs.Answer.{Out, answers, done, gives, call, addr_code, index_code, running, owner}

-- the first-level page of the running thread's owner
abbrev pub first_page : List ℕ → ℕ
first_page L = first_of L (owner L)

-- "1; not own spare 16", "1; not own data 17": page p is the running thread's owner's and of type t, or c refuses
unfoldable pub own_code : Machine → List ℕ → ℕ → ℕ → ℕ → ℕ
own_code b L p t c =
    first
    (when (leb b.pages p) no_such_page
    ∷ when (not (eqb (owner_of L p) (owner L))) c
    ∷ when (not (eqb (type_of L p) t)) c
    ∷ [])

-- ---- 35 InitL2PTable p, i: "1; not own spare 16; 21; 7"
unfoldable pub spare_table_code : Machine → List ℕ → List ℕ → ℕ → ℕ → ℕ
spare_table_code b M L p i =
    first
    (own_code b L p spare not_own_spare
    ∷ index_code M b.secure (first_page L) i
    ∷ [])

-- "spare to table"
unfoldable pub spare_table : Machine → List ℕ → List ℕ → ℕ → ℕ → Out
spare_table b M L p i =
    call (spare_table_code b M L p i) M L
    (let M₁ = linked M b.secure (first_page L) i p in
    let L₁ = anew L p (second_level ∷ owner L ∷ i ∷ []) in
    done M₁ L₁)

-- ---- 36 MapData p, map: "1; 16; 6; ADDR"
unfoldable pub map_data_code : Machine → List ℕ → List ℕ → ℕ → ℕ → ℕ
map_data_code b M L p map =
    first
    (own_code b L p spare not_own_spare
    ∷ when (not (well_formed map)) ill_formed
    ∷ addr_code M b.secure (first_page L) map
    ∷ [])

-- "spare to zero data page": a spare page holds zero memory in every accepted state, so nothing is wiped
unfoldable pub map_data : Machine → List ℕ → List ℕ → ℕ → ℕ → Out
map_data b M L p map =
    call (map_data_code b M L p map) M L
    (let M₁ = mapped M b.secure (first_page L) map p in
    let L₁ = anew L p (data_page ∷ owner L ∷ map ∷ []) in
    done M₁ L₁)

-- ---- 37 UnmapData p: "1; not own data 17"; "slot and memory zero, spare"
unfoldable pub unmap_data : Machine → List ℕ → List ℕ → ℕ → Out
unmap_data b M L p =
    call (own_code b L p data_page not_own_data) M L
    (let M₁ = filled M b.secure (first_page L) (map_of L p) 0 in
    let M₂ = wiped M₁ (b.secure + p) in
    let L₁ = anew L p (spare ∷ owner L ∷ []) in
    done M₂ L₁)

-- ---- 38 Exit v: "ends run, answers 0, v"
unfoldable pub exit : List ℕ → List ℕ → ℕ → Out
exit M L v = gives v M (run L 0)

-- ---- 39 Interrupt r0-r15, flags: "ends run, thread suspended with these; code 32; flags keep their top 4 bits"
abbrev pub top_four : ℕ → ℕ
top_four w = w / 2 ^ 28 * 2 ^ 28

unfoldable pub interrupt : List ℕ → List ℕ → List ℕ → Out
interrupt M L regs =
    let L₁ = puts L (running L) suspended_word (1 ∷ take 16 regs ++ (top_four (get_or regs 16 0) ∷ [])) in
    answers Interrupted M (run L₁ 0)

-- ---- 40 Fault: "ends run, code 33"
unfoldable pub fault : List ℕ → List ℕ → Out
fault M L = answers Faulted M (run L 0)

-- ---- 41 Load va: "the word"; where the address is not translated, "as 40"
abbrev pub load_through : List ℕ → List ℕ → ℕ → Option ℕ → Out
load_through M L va None = fault M L
load_through M L va (Some v) = gives (frame M (frame_of v) (word_of va)) M L

unfoldable pub load : Machine → List ℕ → List ℕ → ℕ → Out
load b M L va = load_through M L va (translate M b.secure (first_page L) va false)

-- ---- 42 Store va, w: "writes it"
abbrev pub store_through : List ℕ → List ℕ → ℕ → ℕ → Option ℕ → Out
store_through M L va w None = fault M L
store_through M L va w (Some v) = done (put_word M (frame_of v) (word_of va) w) L

unfoldable pub store : Machine → List ℕ → List ℕ → ℕ → ℕ → Out
store b M L va w = store_through M L va w (translate M b.secure (first_page L) va true)
