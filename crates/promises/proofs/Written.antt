-- What one record does to the memory: a word stays, or the record may write it and its frame is a page of the space for which the record
-- acts, or an insecure frame, or the page that Remove frees. Assumes nothing.
use Prim.Native.Nat.{ℕ, ◌+◌, ◌*◌, ◌<◌}
use mathlib.Core.Path.{◌≡◌, refl, ap, ◌∙◌}
use mathlib.Core.Bool.{Bool, true}
use mathlib.Core.List.{List, ◌∷◌}
use mathlib.Core.Logic.{◌⊎◌, ⊎_elim, inl, inr}
use native.Mathlib.Omega.{arith}
use borrow.Author.Tests.{eq-eqb, ne_eqb}
use Rattle.words.specs.Words.{pick}
use Rattle.words.proofs.Cases.{same_or}
use Rattle.machine.specs.declared.Machine.{Machine}
use Rattle.machine.specs.Machine.{frame_words, Insecure}
use Rattle.mapping.specs.Mapping.{slot_of, rights_of}
use Rattle.ledger.specs.Names.{running_word, free, space, first_level, second_level, data_page, stopped}
use Rattle.ledger.specs.Ledger.{header, rec}
use Rattle.memory.specs.Memory.{frame, put_word, copied, wiped}
use Rattle.memory.proofs.Frames.{put_word_other, copied_other, wiped_other}
use Rattle.walk.specs.Walk.{frame_of, word_of, filled, mapped, linked, slot_word}
use Rattle.walk.proofs.Laws.{Holds, filled_table, length-filled, linked_is}
use Rattle.answer.specs.Refusals.{not_own_data}
use Rattle.answer.specs.Answer.{Out, call, running, owner}
use Rattle.answer.proofs.Laws.{by_code}
use Rattle.accept.specs.Accept.{Is, Tables, Accepted}
use Rattle.building.specs.Calls.{init_addr_space, init_thread, init_table_code, init_table, alloc_spare, map_secure_code, map_secure, map_insecure_code, map_insecure, finalise}
use Rattle.building.proofs.Laws.{passes_init_table, passes_map_secure, passes_map_insecure}
use Rattle.system.specs.Calls.{get_phys_pages, enter_thread, resume, stop, remove_code, remove, free_pages}
use Rattle.system.proofs.Laws.{passes_remove}
use Rattle.attesting.specs.Calls.{get_random, attest, verify}
use Rattle.enclave.specs.Calls.{own_code, spare_table_code, spare_table, map_data_code, map_data, unmap_data, exit, interrupt, fault, store}
use Rattle.enclave.proofs.Laws.{passes_own, passes_spare_table, passes_map_data, by_load, by_store}
use Rattle.records.specs.Records.{arg}
use Rattle.records.proofs.Form.{nobody_runs, somebody_runs}
use Rattle.calls.specs.Table.{calls}
use Rattle.batch.specs.Batch.{obey}
use Rattle.batch.proofs.Obeyed.{◌and◌, by_rows_alone}
use Rattle.kept.proofs.Facts.Leaves.{Table, own_table, stood, mapped_besides}
use Rattle.kept.proofs.Facts.Bridge.{page_in, frame_in, tables_of}
use Rattle.kept.proofs.Facts.Acting.{acts}
use Rattle.kept.proofs.Reach.{open_through}
use Rattle.promises.specs.Shut.{acts_for}
use Rattle.promises.specs.Written.{SlotAt, MayWrite, MayWrite.links, MayWrite.own_links, MayWrite.maps, MayWrite.shares, MayWrite.own_maps, MayWrite.own_unmaps, MayWrite.fills, MayWrite.removes, MayWrite.clears, MayWrite.stores, NothingElseWritten}
use Rattle.promises.proofs.Access.{yes_allows}
use Rattle.promises.proofs.Moved.Building.{making_table, making_data}
use Rattle.promises.proofs.Moved.Enclave.{turning_table, turning_data, turning_spare}
use Rattle.promises.proofs.Moved.Given.{Given, made, turned, is_new, table_on}

-- frame f may be written for space a by record W, which leaves the ledger L'
pub data Reach (b : Machine) (W L' : List ℕ) (a f : ℕ) : Type 0 where
  page : (t q : ℕ) → Is b (rec L') a t q → (t ≡ free → ⊥) → f ≡ b.secure + q → Reach b W L' a f
  shared : Insecure b f → Reach b W L' a f
  removed : arg W 0 ≡ 12 → arg W 1 < b.pages → f ≡ b.secure + arg W 1 → Reach b W L' a f

-- each word of memory N' is N's, or is in such a frame and one that the record may write, by the memory M and the ledger L that it finds
pub record Touches (b : Machine) (M L W L' : List ℕ) (a : ℕ) (N N' : List ℕ) : Type 0 where
  pub word : (f k : ℕ) → k < frame_words → (frame N' f k ≡ frame N f k) ⊎ (Reach b W L' a f × MayWrite b M L W f k)

-- ---- the memory
module _ {b : Machine} {M L W L' : List ℕ} {a : ℕ} where
  nothing : {N : List ℕ} → Touches b M L W L' a N N
  nothing = record { word = λ f k l. inl refl }

  then : {N N₁ N₂ : List ℕ} → Touches b M L W L' a N N₁ → Touches b M L W L' a N₁ N₂ → Touches b M L W L' a N N₂
  then x y = record { word = λ f k l. ⊎_elim (λ e. ⊎_elim (λ e'. inl (e ∙ e')) inr (x.word f k l)) inr (y.word f k l) }

  -- one frame changes, or one word
  in_frame : {N N' : List ℕ} (g : ℕ) → Reach b W L' a g → ((k : ℕ) → MayWrite b M L W g k)
      → ((f k : ℕ) → (f ≡ g → ⊥) → k < frame_words → frame N' f k ≡ frame N f k) → Touches b M L W L' a N N'
  in_frame g x may others =
      record { word = λ f k l. ⊎_elim (λ e. inr (rw e (x, may k))) (λ n. inl (others f k n l)) (same_or f g) }

  in_word : (N : List ℕ) (g i v : ℕ) → i < frame_words → Reach b W L' a g → MayWrite b M L W g i → Touches b M L W L' a N (put_word N g i v)
  in_word N g i v il x may =
      record {
        word = λ f k l.
            ⊎_elim (λ e. let same : f ≡ g = omega arith in let same' : k ≡ i = omega arith in inr (rw (same, same') (x, may)))
            (λ n. inl (put_word_other N g i v f k n)) (same_or (frame_words * f + k) (frame_words * g + i));
      }

-- ---- what the calls do for space a, which is not stopped
module _ {b : Machine} {M L : List ℕ} (ok : Accepted b M L) {a : ℕ} (al : a < b.pages) (type : rec L a 0 ≡ space)
    (going : rec L a 3 ≡ stopped → ⊥) where
  tables : Tables b (rec L) (frame M) a
  tables = tables_of ok al type going

  -- MapSecure's slot is filled in the table that was named before the copy
  pub mapped_copy : {p map g v : ℕ} → p < b.pages → rec L p 0 ≡ free → Insecure b g → (h : Holds M b.secure (rec L a 2) map v)
      → mapped (copied M g (b.secure + p)) b.secure (rec L a 2) map p
      ≡ put_word (copied M g (b.secure + p)) (b.secure + h.table) (slot_of map) (slot_word (b.secure + p) (rights_of map))
  mapped_copy {p} {g = g} pl was out =
      mapped_besides (copied M g (b.secure + p)) tables (λ l. omega arith)
      (λ q k n l. copied_other M g (b.secure + p) (frame_in ok g out) (page_in ok p pl) (b.secure + q) k (λ e. n (omega arith)) l)

  module _ (W : List ℕ) where
    -- the record may write the slot of this mapping word
    abbrev Slot : ℕ → Type 0
    Slot map = (f k : ℕ) → SlotAt b M L a map f k → MayWrite b M L W f k

    in_slot : {L' : List ℕ} (N : List ℕ) {map u : ℕ} (v : ℕ) (h : Holds M b.secure (rec L a 2) map u) → Is b (rec L') a second_level h.table
        → Slot map → Touches b M L W L' a N (put_word N (b.secure + h.table) (slot_of map) v)
    in_slot N {map} v h i may =
        in_word N (b.secure + h.table) (slot_of map) v (omega arith) (page second_level h.table i (λ z. omega arith) refl)
        (may (b.secure + h.table) (slot_of map) (record { table = h.table; linked = h.named; in_table = refl; at_slot = refl }))

    touch_filled : {L' : List ℕ} {map u : ℕ} (v : ℕ) (h : Holds M b.secure (rec L a 2) map u) → Is b (rec L') a second_level h.table
        → Slot map → Touches b M L W L' a M (filled M b.secure (rec L a 2) map v)
    touch_filled {map = map} v h i may =
        rw (filled_table M b.secure (rec L a 2) map v h.table h.named) (in_slot M v h i may)

    -- page p, which was no table, is made or turned
    module _ {L' : List ℕ} {p t : ℕ} {vs : List ℕ} (x : Given b L L' a p (t ∷ a ∷ vs)) (none : Table (rec L p 0) → ⊥) where
      on : {map u : ℕ} (h : Holds M b.secure (rec L a 2) map u) → Is b (rec L') a second_level h.table
      on h = table_on x none (omega arith) (own_table tables h).0

      touch_linked : (i : ℕ) → i < 256 → MayWrite b M L W (b.secure + rec L a 2) i
          → Touches b M L W L' a M (linked M b.secure (rec L a 2) i p)
      touch_linked i l =
          rw (linked_is M b.secure (rec L a 2) i p)
          (in_word M (b.secure + rec L a 2) i (p + 1) (omega arith)
          (page first_level (rec L a 2) (table_on x none (omega arith) tables.first) (λ z. omega arith) refl))

      module _ (used : t ≡ free → ⊥) (fills : (k : ℕ) → MayWrite b M L W (b.secure + p) k) where
        in_page : {N N' : List ℕ} → ((f k : ℕ) → (f ≡ b.secure + p → ⊥) → k < frame_words → frame N' f k ≡ frame N f k) → Touches b M L W L' a N N'
        in_page = in_frame (b.secure + p) (page t p (is_new x) used refl) fills

        touch_copied : {map g : ℕ} → rec L p 0 ≡ free → Insecure b g → Holds M b.secure (rec L a 2) map 0 → Slot map
            → Touches b M L W L' a M (mapped (copied M g (b.secure + p)) b.secure (rec L a 2) map p)
        touch_copied {map} {g} was out place may =
            rw (mapped_copy x.below was out place)
            (then (in_page (copied_other M g (b.secure + p) (frame_in ok g out) (page_in ok p x.below)))
            (in_slot (copied M g (b.secure + p)) (slot_word (b.secure + p) (rights_of map)) place (on place) may))

        touch_wiped : Is b (rec L) a data_page p → Slot (rec L p 2)
            → Touches b M L W L' a M (wiped (filled M b.secure (rec L a 2) (rec L p 2) 0) (b.secure + p))
        touch_wiped i may =
            let h = stood tables i in
            let N = filled M b.secure (rec L a 2) (rec L p 2) 0 in
            then (touch_filled 0 h (on h) may)
            (in_page
            (wiped_other N (b.secure + p) (rw (length-filled M b.secure (rec L a 2) (rec L p 2) 0) (page_in ok p i.below))))

-- ---- one record
module _ (b : Machine) (M L W : List ℕ) (ok : Accepted b M L) where
  abbrev x : ℕ → ℕ
  x k = arg W k

  abbrev P : Out → Type 0
  P o = Touches b M L W o.led (acts_for L W) M o.mem

  by_call : (code : ℕ) (o : Out) → (code ≡ 0 → P o) → P (call code M L o)
  by_call = by_code M L P (λ _ _. nothing)

  -- where the memory stays
  still : (code : ℕ) (vs L' : List ℕ) → P (call code M L (record { ans = vs; mem = M; led = L' }))
  still code vs L' = by_call code (record { ans = vs; mem = M; led = L' }) (λ _. nothing)

  -- ---- the system's calls, and the space for which they act
  module _ (idle : header L running_word ≡ 0) where
    for_named : acts_for L W ≡ arg W 1
    for_named = ap (λ (t : Bool). pick t (arg W 1) (owner L)) (eq-eqb (header L running_word) 0 idle)

    init_table_lem : x 0 ≡ 4 → P (init_table b M L (x 1) (x 2) (x 3))
    unfolding init_table
    init_table_lem e =
        by_call (init_table_code b M L (x 1) (x 2) (x 3)) _
        (λ z.
        let (al, type, now, pl, was, small, empty) = passes_init_table b M L (x 1) (x 2) (x 3) z in
        rw for_named
        (touch_linked ok al type (λ z. omega arith) W (made (making_table (x 1) (x 2) (x 3) ok z).1) (λ t. omega arith) (x 3) small
        (links e refl refl)))

    map_secure_lem : x 0 ≡ 6 → P (map_secure b M L (x 1) (x 2) (x 3) (x 4))
    unfolding map_secure
    map_secure_lem e =
        by_call (map_secure_code b M L (x 1) (x 2) (x 3) (x 4)) _
        (λ z.
        let (al, type, now, pl, was, good, place, out) = passes_map_secure b M L (x 1) (x 2) (x 3) (x 4) z in
        rw for_named
        (touch_copied ok al type (λ z. omega arith) W (made (making_data (x 1) (x 2) (x 3) (x 4) ok z).1) (λ t. omega arith)
        (λ z. omega arith) (λ k. fills e refl) was out place (λ _ _. maps e)))

    map_insecure_lem : x 0 ≡ 7 → P (map_insecure b M L (x 1) (x 2) (x 3))
    unfolding map_insecure
    map_insecure_lem e =
        by_call (map_insecure_code b M L (x 1) (x 2) (x 3)) _
        (λ z.
        let (al, type, now, good, low, place, out) = passes_map_insecure b M L (x 1) (x 2) (x 3) z in
        let going : rec L (x 1) 3 ≡ stopped → ⊥ = λ z. omega arith in
        rw for_named
        (touch_filled ok al type going W (slot_word (x 3) (rights_of (x 2))) place (own_table (tables_of ok al type going) place).0 (λ _ _. shares e)))

  removing : x 0 ≡ 12 → P (remove b M L (x 1))
  unfolding remove
  removing e =
      by_call (remove_code b L (x 1)) _
      (λ z.
      let pl = (passes_remove b L (x 1) z).0 in
      in_frame (b.secure + x 1) (removed e pl refl) (λ k. removes e refl) (wiped_other M (b.secure + x 1) (page_in ok (x 1) pl)))

  -- ---- the running enclave's
  module _ (runs : header L running_word ≡ running L + 1) where
    for_owner : acts_for L W ≡ owner L
    for_owner = ap (λ (t : Bool). pick t (arg W 1) (owner L)) (ne_eqb (header L running_word) 0 (λ z. omega arith))

    spare_table_lem : x 0 ≡ 35 → P (spare_table b M L (x 1) (x 2))
    unfolding spare_table
    spare_table_lem e =
        by_call (spare_table_code b M L (x 1) (x 2)) _
        (λ z.
        let (al, type, now) = acts ok (running L) runs in
        let (pl, own, was, small, empty) = passes_spare_table b M L (x 1) (x 2) z in
        rw for_owner
        (touch_linked ok al type (λ z. omega arith) W (turned type (λ z. omega arith) (turning_table (x 1) (x 2) ok z)) (λ t. omega arith)
        (x 2) small (own_links e refl refl)))

    map_data_lem : x 0 ≡ 36 → P (map_data b M L (x 1) (x 2))
    unfolding map_data mapped
    map_data_lem e =
        by_call (map_data_code b M L (x 1) (x 2)) _
        (λ z.
        let (al, type, now) = acts ok (running L) runs in
        let going : rec L (owner L) 3 ≡ stopped → ⊥ = λ z. omega arith in
        let (pl, own, was, good, place) = passes_map_data b M L (x 1) (x 2) z in
        let given = turned type (λ z. omega arith) (turning_data (x 1) (x 2) ok z) in
        rw for_owner
        (touch_filled ok al type going W (slot_word (b.secure + x 1) (rights_of (x 2))) place
        (on ok al type going W given (λ t. omega arith) place) (λ _ _. own_maps e)))

    unmap_data_lem : x 0 ≡ 37 → P (unmap_data b M L (x 1))
    unfolding unmap_data
    unmap_data_lem e =
        by_call (own_code b L (x 1) data_page not_own_data) _
        (λ z.
        let (al, type, now) = acts ok (running L) runs in
        let (pl, own, was) = passes_own b L (x 1) data_page 16 z in
        rw for_owner
        (touch_wiped ok al type (λ z. omega arith) W (turned type (λ z. omega arith) (turning_spare (x 1) ok z)) (λ t. omega arith)
        (λ z. omega arith) (λ k. clears e refl) (record { below = pl; type = was; own = own }) (λ _ _. own_unmaps e)))

    -- a store, by what is open to the running space
    storing : x 0 ≡ 42 → P (store b M L (x 1) (x 2))
    unfolding fault
    storing e =
        by_store b M L (x 1) (x 2) P (λ _. nothing)
        (λ v leads.
        let may = open_through ok (running L) runs (x 1) true leads in
        let slot = (yes_allows ok (record { page = running L; word = runs; own = refl }) (x 1) true leads).slot in
        rw for_owner
        (in_word M (frame_of v) (word_of (x 1)) (x 2) (omega arith)
        (⊎_elim (λ y. page data_page y.0 y.1 (λ z. omega arith) y.2) shared may.to) (stores e v slot refl refl)))

  pub record_touches : Touches b M L W (obey b M L W).led (acts_for L W) M (obey b M L W).mem
  unfolding calls get_phys_pages init_addr_space init_thread alloc_spare finalise enter_thread resume stop free_pages get_random attest verify exit interrupt fault
  record_touches =
      by_rows_alone b M L W P (λ _ _. nothing)
      ((λ _ _. nothing)
      and (λ _ _. still _ _ _)
      and (λ _ _. still _ _ _)
      and (λ i e. init_table_lem (nobody_runs L 4 refl e) i)
      and (λ _ _. still _ _ _)
      and (λ i e. map_secure_lem (nobody_runs L 6 refl e) i)
      and (λ i e. map_insecure_lem (nobody_runs L 7 refl e) i)
      and (λ _ _. still _ _ _)
      and (λ _ _. still _ _ _)
      and (λ _ _. still _ _ _)
      and (λ _ _. still _ _ _)
      and (λ i _. removing i)
      and (λ _ _. nothing)
      and (λ _ _. nothing)
      and (λ _ _. nothing)
      and (λ _ _. nothing)
      and (λ i e. spare_table_lem (somebody_runs L 35 refl e) i)
      and (λ i e. map_data_lem (somebody_runs L 36 refl e) i)
      and (λ i e. unmap_data_lem (somebody_runs L 37 refl e) i)
      and (λ _ _. nothing)
      and (λ _ _. nothing)
      and (λ _ _. nothing)
      and (λ _ _. by_load b M L (x 1) P (λ _. nothing) (λ v _. nothing))
      and (λ i e. storing (somebody_runs L 42 refl e) i)
      and tt)

pub nothing_else_written : NothingElseWritten
nothing_else_written b M L W f k ok l never = ⊎_elim (λ e. e) (λ r. absurd (never r.1)) ((record_touches b M L W ok).word f k l)
