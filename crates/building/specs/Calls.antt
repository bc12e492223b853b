-- Document 01, "Calls, checks left to right": calls 2-8, by which the untrusted system builds an enclave. Of each call its refusals in
-- order, then its effect, step by step. Assumes nothing.
use Rattle.std.specs.Prelude.{ℕ, ◌+◌, not, List, [], ◌∷◌, replicate, leb, eqb}
use Rattle.words.specs.Words.{when, first}
use Rattle.machine.specs.declared.Machine.{Machine}
use Rattle.machine.specs.Machine.{insecure}
use Rattle.mapping.specs.Mapping.{rights_of, executes, well_formed}
use Rattle.mapping.specs.Entry.{legal_entry}
use Rattle.sha256.specs.Sha256.{H0, compress, absorb, finish}
use Rattle.ledger.specs.Names.{state_word, data_blocks, free, space, thread, first_level, second_level, data_page, spare, building, final, stopped}
use Rattle.ledger.specs.Ledger.{type_of, first_of, state_of, blocks_of, hash, put, occupy, gain, put_hash, measure}
use Rattle.memory.specs.Memory.{words_of, copied}
use Rattle.walk.specs.Walk.{filled, mapped, linked, slot_word}
use Rattle.answer.specs.Refusals.{no_such_page, not_free, wrong_state, ill_formed, not_insecure, bad_entry}
use Rattle.answer.specs.Answer.{Out, done, call, as_code, pg_code, building_code, addr_code, index_code}

-- ---- 2 InitAddrSpace a, f: "either ≥ n 1; either not free, or a = f, 2"
unfoldable pub init_addr_space_code : Machine → List ℕ → ℕ → ℕ → ℕ
init_addr_space_code b L a f =
    first
    (when (leb b.pages a) no_such_page
    ∷ when (leb b.pages f) no_such_page
    ∷ when (not (eqb (type_of L a) free)) not_free
    ∷ when (not (eqb (type_of L f) free)) not_free
    ∷ when (eqb a f) not_free
    ∷ [])

-- "new space, building, count 1, starting hash"
unfoldable pub new_space : List ℕ → ℕ → ℕ → List ℕ
new_space L a f =
    let L₁ = occupy L a (space ∷ a ∷ f ∷ building ∷ 1 ∷ 0 ∷ H0) in
    occupy L₁ f (first_level ∷ a ∷ [])

unfoldable pub init_addr_space : Machine → List ℕ → List ℕ → ℕ → ℕ → Out
init_addr_space b M L a f = call (init_addr_space_code b L a f) M L (done M (new_space L a f))

-- ---- 3 InitThread a, t, entry: "AS; not building 4; PG". #103: then 23 "when the entry isn't a multiple of 4 or is at or above 2^30"
unfoldable pub init_thread_code : Machine → List ℕ → ℕ → ℕ → ℕ → ℕ
init_thread_code b L a t entry =
    first
    (building_code b L a
    ∷ pg_code b L t
    ∷ when (not (legal_entry entry)) bad_entry
    ∷ [])

-- "A thread adds the 16 words 1, entry, zeros."
abbrev pub thread_block : ℕ → List ℕ
thread_block entry = 1 ∷ entry ∷ replicate 14 0

-- "The running hash goes into each measuring step and is handed back with that record added."
unfoldable pub add_thread : List ℕ → ℕ → List ℕ
add_thread h entry = compress h (thread_block entry)

-- "thread, measured"
unfoldable pub new_thread : List ℕ → ℕ → ℕ → ℕ → List ℕ
new_thread L a t entry =
    let L₁ = occupy L t (thread ∷ a ∷ entry ∷ []) in
    let L₂ = gain L₁ a in
    measure L₂ a 1 (add_thread (hash L a) entry)

unfoldable pub init_thread : Machine → List ℕ → List ℕ → ℕ → ℕ → ℕ → Out
init_thread b M L a t entry = call (init_thread_code b L a t entry) M L (done M (new_thread L a t entry))

-- ---- 4 InitL2PTable a, p, i: "AS; 4; PG; i ≥ 256 21; taken 7"
unfoldable pub init_table_code : Machine → List ℕ → List ℕ → ℕ → ℕ → ℕ → ℕ
init_table_code b M L a p i =
    first
    (building_code b L a
    ∷ pg_code b L p
    ∷ index_code M b.secure (first_of L a) i
    ∷ [])

-- "table"
unfoldable pub new_table : List ℕ → ℕ → ℕ → ℕ → List ℕ
new_table L a p i =
    let L₁ = occupy L p (second_level ∷ a ∷ i ∷ []) in
    gain L₁ a

unfoldable pub init_table : Machine → List ℕ → List ℕ → ℕ → ℕ → ℕ → Out
init_table b M L a p i = call (init_table_code b M L a p i) M L (done (linked M b.secure (first_of L a) i p) (new_table L a p i))

-- ---- 5 AllocSpare a, p: "AS; stopped 4; PG"
unfoldable pub alloc_spare_code : Machine → List ℕ → ℕ → ℕ → ℕ
alloc_spare_code b L a p =
    first
    (as_code b L a
    ∷ when (eqb (state_of L a) stopped) wrong_state
    ∷ pg_code b L p
    ∷ [])

-- "spare"
unfoldable pub new_spare : List ℕ → ℕ → ℕ → List ℕ
new_spare L a p =
    let L₁ = occupy L p (spare ∷ a ∷ []) in
    gain L₁ a

unfoldable pub alloc_spare : Machine → List ℕ → List ℕ → ℕ → ℕ → Out
alloc_spare b M L a p = call (alloc_spare_code b L a p) M L (done M (new_spare L a p))

-- ---- 6 MapSecure a, p, map, frame: "AS; 4; PG; ill-formed 6; ADDR; frame not insecure 9"
unfoldable pub map_secure_code : Machine → List ℕ → List ℕ → ℕ → ℕ → ℕ → ℕ → ℕ
map_secure_code b M L a p map g =
    first
    (building_code b L a
    ∷ pg_code b L p
    ∷ when (not (well_formed map)) ill_formed
    ∷ addr_code M b.secure (first_of L a) map
    ∷ when (not (insecure b g)) not_insecure
    ∷ [])

-- "MapSecure adds 2, .., zeros, then the 1,024 words copied." #105: "MapSecure's second measured word becomes the whole mapping word."
abbrev pub map_block : ℕ → List ℕ
map_block map = 2 ∷ map ∷ replicate 14 0

unfoldable pub add_page : List ℕ → ℕ → List ℕ → List ℕ
add_page h map words = absorb (compress h (map_block map)) words

-- a data page more; the space's hash, with that record added, is h
unfoldable pub new_data : List ℕ → ℕ → ℕ → ℕ → List ℕ → List ℕ
new_data L a p map h =
    let L₁ = occupy L p (data_page ∷ a ∷ map ∷ []) in
    let L₂ = gain L₁ a in
    measure L₂ a data_blocks h

-- "copies frame, maps, measured"
unfoldable pub map_secure : Machine → List ℕ → List ℕ → ℕ → ℕ → ℕ → ℕ → Out
map_secure b M L a p map g =
    call (map_secure_code b M L a p map g) M L
    (let M₁ = copied M g (b.secure + p) in
    let M₂ = mapped M₁ b.secure (first_of L a) map p in
    done M₂ (new_data L a p map (add_page (hash L a) map (words_of M g))))

-- ---- 7 MapInsecure a, map, frame: "AS; 4; ill-formed or execute 6; ADDR; 9"
unfoldable pub map_insecure_code : Machine → List ℕ → List ℕ → ℕ → ℕ → ℕ → ℕ
map_insecure_code b M L a map g =
    first
    (building_code b L a
    ∷ when (not (well_formed map)) ill_formed
    ∷ when (executes map) ill_formed
    ∷ addr_code M b.secure (first_of L a) map
    ∷ when (not (insecure b g)) not_insecure
    ∷ [])

-- "maps"
unfoldable pub map_insecure : Machine → List ℕ → List ℕ → ℕ → ℕ → ℕ → Out
map_insecure b M L a map g =
    call (map_insecure_code b M L a map g) M L (done (filled M b.secure (first_of L a) map (slot_word g (rights_of map))) L)

-- ---- 8 Finalise a: "AS; 4". "Finalise pads as FIPS 180-4 says and leaves the block count."
unfoldable pub finalised : List ℕ → ℕ → List ℕ
finalised L a =
    let L₁ = put L a state_word final in
    put_hash L₁ a (finish (hash L a) (blocks_of L a))

unfoldable pub finalise : Machine → List ℕ → List ℕ → ℕ → Out
finalise b M L a = call (building_code b L a) M L (done M (finalised L a))
