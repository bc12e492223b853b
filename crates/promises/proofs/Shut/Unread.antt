-- No record reads a monitor frame: of two accepted memories that differ only there it makes the same answer, the same ledger and, outside the
-- monitor's frames, the same memory. Assumes nothing.
use Prim.Native.Nat.{ℕ, zero, suc, ◌+◌, ◌*◌, ◌%◌, ◌≤◌, ◌<◌}
use mathlib.Core.Path.{◌≡◌, refl, sym, ap, ◌∙◌}
use mathlib.Core.Bool.{Bool, true, false, not}
use mathlib.Core.List.{List, [], ◌∷◌}
use mathlib.Core.Logic.{⊎_elim}
use native.Mathlib.Omega.{arith}
use lib.Dec.{eqb, leb}
use lib.ListN.{length}
use lib.Seq.{ext_get_or, get_or-set_same}
use borrow.Author.Tests.{leb-false}
use Rattle.words.specs.Words.{pick, when, or}
use Rattle.words.proofs.Cases.{same_or}
use Rattle.machine.specs.declared.Machine.{Machine}
use Rattle.machine.specs.Machine.{Fits, frame_words, Insecure, insecure}
use Rattle.mapping.specs.Mapping.{address_end, index_of, slot_of, rights_of, most_tables}
use Rattle.ledger.specs.Names.{running_word, space, data_page, stopped}
use Rattle.ledger.specs.Ledger.{header, rec, hash}
use Rattle.memory.specs.Memory.{frame, words_of, put_word, copied, wiped}
use Rattle.memory.proofs.Frames.{length_words_of, words_of_at, length-put_word, put_word_other, length-copied, copied_same, copied_other, length-wiped, wiped_same, wiped_other}
use Rattle.std.specs.Prelude.{Option, Some, None}
use Rattle.walk.specs.declared.Slot.{Slot}
use Rattle.walk.specs.Walk.{walk, allowed, translate, frame_of, word_of, filled_at, filled, slot_word, mapped, linked}
use Rattle.walk.proofs.Laws.{walk_same, length-filled, by-slot}
use Rattle.answer.specs.Refusals.{slot_taken, not_insecure, no_such_index}
use Rattle.answer.specs.Answer.{Out, call, taken_code, addr_code, index_code, running}
use Rattle.answer.proofs.Laws.{passes_building, by_codes}
use Rattle.accept.specs.Accept.{Accepted}
use Rattle.building.specs.Parts.{place_code}
use Rattle.building.specs.Calls.{init_addr_space, init_thread, init_table_code, init_table, alloc_spare, map_secure_code, add_page, new_data, map_secure, map_insecure_code, map_insecure, finalise}
use Rattle.building.proofs.Laws.{passes_init_table, passes_map_secure, passes_map_insecure}
use Rattle.system.specs.Calls.{get_phys_pages, enter_thread, resume, stop, remove, free_pages}
use Rattle.system.proofs.Laws.{passes_remove}
use Rattle.attesting.specs.Calls.{get_random, attest, verify}
use Rattle.enclave.specs.Calls.{first_page, spare_table_code, spare_table, map_data_code, map_data, unmap_data, exit, interrupt, fault, load, store}
use Rattle.enclave.proofs.Laws.{passes_own, load_no, load_yes, store_no, store_yes}
use Rattle.records.specs.Records.{arg}
use Rattle.records.proofs.Form.{somebody_runs}
use Rattle.calls.specs.Table.{calls}
use Rattle.batch.specs.Batch.{obey}
use Rattle.batch.proofs.Obeyed.{◌and◌, by_rows}
use Rattle.kept.proofs.Facts.Bridge.{page_in, frame_in, tables_of}
use Rattle.kept.proofs.Facts.Acting.{acts}
use Rattle.kept.proofs.Reach.{OpenTo, open_through}
use Rattle.promises.specs.Terms.{OfMonitor}
use Rattle.promises.specs.Shut.{SameBesides}
use Rattle.promises.proofs.Written.{mapped_copy}

-- ---- a monitor frame is neither secure nor insecure
pub not_secure : {b : Machine} {f q : ℕ} → Fits b → OfMonitor b f → q < b.pages → f ≡ b.secure + q → ⊥
not_secure fits m l e = ⊎_elim (λ x. omega (arith, m.from)) (λ x. omega (arith, m.to)) fits.apart

pub not_insecure_lem : {b : Machine} {f : ℕ} → OfMonitor b f → Insecure b f → ⊥
not_insecure_lem m i = ⊎_elim (λ x. omega (arith, m.from)) (λ x. omega (arith, m.to)) i.not_monitor

-- ---- two memories of one length that differ in monitor frames only, written alike
put_here : (M : List ℕ) (f k v g j : ℕ) → frame_words * g + j < length M → frame_words * g + j ≡ frame_words * f + k → frame (put_word M f k v) g j ≡ v
unfolding frame put_word
put_here M f k v g j l e = rw e (get_or-set_same M (frame_words * f + k) v 0 (omega arith))

module _ {b : Machine} {N N' : List ℕ} (long : length N ≡ frame_words * b.frames) (same : SameBesides b N N') where
  put_both : (f k v : ℕ) → SameBesides b (put_word N f k v) (put_word N' f k v)
  put_both f k v =
      record {
        size = length-put_word N' f k v ∙ same.size ∙ sym (length-put_word N f k v);
        others = λ g j l m jl.
            ⊎_elim (λ e. put_here N' f k v g j (omega (arith, same.size)) e ∙ sym (put_here N f k v g j (omega arith) e))
            (λ n. put_word_other N' f k v g j n ∙ same.others g j l m jl ∙ sym (put_word_other N f k v g j n))
            (same_or (frame_words * g + j) (frame_words * f + k));
      }

  inside : (g : ℕ) → g < b.frames → (frame_words * g + frame_words ≤ length N) × (frame_words * g + frame_words ≤ length N')
  inside g l = (omega arith, omega (arith, same.size))

  wiped_both : (g : ℕ) → g < b.frames → SameBesides b (wiped N g) (wiped N' g)
  wiped_both g gl =
      let (l, l') = inside g gl in
      record {
        size = length-wiped N' g l' ∙ same.size ∙ sym (length-wiped N g l);
        others = λ f k fl m kl.
            ⊎_elim (λ e. rw e (wiped_same N' g l' k kl ∙ sym (wiped_same N g l k kl)))
            (λ n. wiped_other N' g l' f k n kl ∙ same.others f k fl m kl ∙ sym (wiped_other N g l f k n kl)) (same_or f g);
      }

  -- of the frame h, which is none of the monitor's
  module _ (h : ℕ) (hl : h < b.frames) (may : OfMonitor b h → ⊥) where
    words_both : words_of N' h ≡ words_of N h
    words_both =
        let (l, l') = inside h hl in
        let e = length_words_of N h l in
        let e' = length_words_of N' h l' in
        ext_get_or 0 (words_of N' h) (words_of N h) (e' ∙ sym e)
        (λ k kl.
        let m : k < frame_words = omega arith in
        words_of_at N' h k m ∙ same.others h k hl may m ∙ sym (words_of_at N h k m))

    copied_both : (g : ℕ) → g < b.frames → SameBesides b (copied N h g) (copied N' h g)
    copied_both g gl =
        let (s, s') = inside h hl in
        let (l, l') = inside g gl in
        record {
          size = length-copied N' h g s' l' ∙ same.size ∙ sym (length-copied N h g s l);
          others = λ f k fl m kl.
              ⊎_elim (λ e. rw e (copied_same N' h g s' l' k kl ∙ same.others h k hl may kl ∙ sym (copied_same N h g s l k kl)))
              (λ n. copied_other N' h g s' l' f k n kl ∙ same.others f k fl m kl ∙ sym (copied_other N h g s l f k n kl)) (same_or f g);
        }

-- ---- codes: the second refusal has to agree only where the first does not refuse
or_after : {c d d' : ℕ} → (c ≡ 0 → d' ≡ d) → or c d' ≡ or c d
unfolding or
or_after {c = zero} f = f refl
or_after {c = suc c} f = refl

pick_after : (t : Bool) (x : ℕ) {y y' : ℕ} → (t ≡ false → y' ≡ y) → pick t x y' ≡ pick t x y
pick_after true x f = refl
pick_after false x f = f refl

-- ---- what is read
module _ {b : Machine} {M L : List ℕ} (ok : Accepted b M L) {M' : List ℕ} (same : SameBesides b M M') where
  page_below : (q : ℕ) → q < b.pages → b.secure + q < b.frames
  page_below q l = omega (arith, ok.lent.fits.secure_below)

  page_both : (q k : ℕ) → q < b.pages → k < frame_words → frame M' (b.secure + q) k ≡ frame M (b.secure + q) k
  page_both q k l = same.others (b.secure + q) k (page_below q l) (λ m. not_secure ok.lent.fits m l refl)

  outside_both : (f k : ℕ) → Insecure b f → k < frame_words → frame M' f k ≡ frame M f k
  outside_both f k i = same.others f k i.below (λ m. not_insecure_lem m i)

  -- through the tables of a space that is not stopped
  module _ {a : ℕ} (al : a < b.pages) (type : rec L a 0 ≡ space) (going : rec L a 3 ≡ stopped → ⊥) where
    first_both : (i : ℕ) → i < frame_words → frame M' (b.secure + rec L a 2) i ≡ frame M (b.secure + rec L a 2) i
    first_both i = page_both (rec L a 2) i (tables_of ok al type going).first.below

    walk_both : (va : ℕ) → walk 2 M' b.secure (rec L a 2) va ≡ walk 2 M b.secure (rec L a 2) va
    walk_both va =
        walk_same M M' b.secure (rec L a 2) va (first_both (index_of va) (omega arith))
        (λ T e. page_both T (slot_of va) ((tables_of ok al type going).names (index_of va) T (omega arith) e).0.below (omega arith))

    addr_both : (va : ℕ) → addr_code M' b.secure (rec L a 2) va ≡ addr_code M b.secure (rec L a 2) va
    unfolding addr_code
    addr_both va = ap taken_code (walk_both va)

    place_both : (map g : ℕ) → place_code b M' (rec L a 2) map g ≡ place_code b M (rec L a 2) map g
    unfolding place_code
    place_both map g = ap (λ (c : ℕ). or c (when (not (insecure b g)) not_insecure)) (addr_both map)

    index_both : (i : ℕ) → index_code M' b.secure (rec L a 2) i ≡ index_code M b.secure (rec L a 2) i
    unfolding index_code
    index_both i =
        pick_after (leb most_tables i) no_such_index
        (λ z. let l = leb-false most_tables i z in ap (λ (y : ℕ). pick (eqb y 0) 0 slot_taken) (first_both i (omega arith)))

    translate_both : (va : ℕ) (write : Bool) → translate M' b.secure (rec L a 2) va write ≡ translate M b.secure (rec L a 2) va write
    unfolding translate
    translate_both va write =
        ap (λ (x : Option Slot). pick (not (eqb (va % 4) 0)) None (pick (leb address_end va) None (allowed write x))) (walk_both va)

    filled_both : (va v : ℕ) → SameBesides b (filled M b.secure (rec L a 2) va v) (filled M' b.secure (rec L a 2) va v)
    unfolding filled
    filled_both va v = rw (walk_both va) (go (walk 2 M b.secure (rec L a 2) va))
      where
        go : (x : Option Slot) → SameBesides b (filled_at M b.secure va v x) (filled_at M' b.secure va v x)
        go None = same
        go (Some sl) = put_both ok.lent.memory same (b.secure + sl.table) (slot_of va) v

    mapped_both : (map p : ℕ) → SameBesides b (mapped M b.secure (rec L a 2) map p) (mapped M' b.secure (rec L a 2) map p)
    unfolding mapped
    mapped_both map p = filled_both map (slot_word (b.secure + p) (rights_of map))

    linked_both : (i p : ℕ) → SameBesides b (linked M b.secure (rec L a 2) i p) (linked M' b.secure (rec L a 2) i p)
    unfolding linked
    linked_both i p = put_both ok.lent.memory same (b.secure + rec L a 2) i (p + 1)

  -- what is open to the running space
  open_both : {a va f : ℕ} (k : ℕ) → k < frame_words → OpenTo b L a va f → frame M' f k ≡ frame M f k
  open_both k l may = ⊎_elim (λ x. rw x.2 (page_both x.0 k x.1.below l)) (λ out. outside_both _ k out l) may.to

-- ---- outcomes that are alike
pub record Alike (b : Machine) (o o' : Out) : Type 0 where
  pub answer : o'.ans ≡ o.ans
  pub ledger : o'.led ≡ o.led
  pub memory : SameBesides b o.mem o'.mem

module _ (b : Machine) (M M' L W : List ℕ) (ok : Accepted b M L) (ok' : Accepted b M' L) (same : SameBesides b M M') where
  abbrev x : ℕ → ℕ
  x k = arg W k

  nothing : {vs L' : List ℕ} → Alike b (record { ans = vs; mem = M; led = L' }) (record { ans = vs; mem = M'; led = L' })
  nothing = record { answer = refl; ledger = refl; memory = same }

  by_call : {code code' : ℕ} (o o' : Out) → code' ≡ code → (code ≡ 0 → Alike b o o') → Alike b (call code M L o) (call code' M' L o')
  by_call {code} o o' e h = rw e (by_codes M L M' L (Alike b) (λ _ _. nothing) code o o' h)

  still : (code : ℕ) (vs L' : List ℕ)
      → Alike b (call code M L (record { ans = vs; mem = M; led = L' })) (call code M' L (record { ans = vs; mem = M'; led = L' }))
  still code vs L' = by_call (record { ans = vs; mem = M; led = L' }) (record { ans = vs; mem = M'; led = L' }) refl (λ _. nothing)

  init_table_code_lem : (a p i : ℕ) → init_table_code b M' L a p i ≡ init_table_code b M L a p i
  unfolding init_table_code
  init_table_code_lem a p i =
      or_after (λ z. let (al, type, now) = passes_building b L a z in or_after (λ _. index_both ok same al type (λ z. omega arith) i))

  init_table_lem : (a p i : ℕ) → Alike b (init_table b M L a p i) (init_table b M' L a p i)
  unfolding init_table
  init_table_lem a p i =
      by_call _ _ (init_table_code_lem a p i)
      (λ z.
      let (al, type, now, pl, was, small, empty) = passes_init_table b M L a p i z in
      record { answer = refl; ledger = refl; memory = linked_both ok same al type (λ z. omega arith) i p })

  map_secure_code_lem : (a p map g : ℕ) → map_secure_code b M' L a p map g ≡ map_secure_code b M L a p map g
  unfolding map_secure_code place_code
  map_secure_code_lem a p map g =
      or_after
      (λ z.
      let (al, type, now) = passes_building b L a z in
      or_after (λ _. or_after (λ _. place_both ok same al type (λ z. omega arith) map g)))

  map_secure_lem : (a p map g : ℕ) → Alike b (map_secure b M L a p map g) (map_secure b M' L a p map g)
  unfolding map_secure
  map_secure_lem a p map g =
      by_call _ _ (map_secure_code_lem a p map g)
      (λ z.
      let (al, type, now, pl, was, good, place, out) = passes_map_secure b M L a p map g z in
      let T = place.table in
      let hidden : OfMonitor b g → ⊥ = λ m. not_insecure_lem m out in
      let going : rec L a 3 ≡ stopped → ⊥ = λ z. omega arith in
      record {
        answer = refl;
        ledger =
            ap (λ (ws : List ℕ). new_data L a p map (add_page (hash L a) map ws))
            (words_both ok.lent.memory same g out.below hidden);
        memory =
            rw (mapped_copy ok al type going pl was out place)
            (rw (mapped_copy ok' al type going pl was out
            (record { table = T; named = first_both ok same al type going (index_of map) (omega arith) ∙ place.named; slot = refl }))
            (put_both (length-copied M g (b.secure + p) (frame_in ok g out) (page_in ok p pl) ∙ ok.lent.memory)
            (copied_both ok.lent.memory same g out.below hidden (b.secure + p) (page_below ok same p pl))
            (b.secure + T) (slot_of map) (slot_word (b.secure + p) (rights_of map))));
      })

  map_insecure_code_lem : (a map g : ℕ) → map_insecure_code b M' L a map g ≡ map_insecure_code b M L a map g
  unfolding map_insecure_code place_code
  map_insecure_code_lem a map g =
      or_after
      (λ z.
      let (al, type, now) = passes_building b L a z in
      or_after (λ _. or_after (λ _. place_both ok same al type (λ z. omega arith) map g)))

  map_insecure_lem : (a map g : ℕ) → Alike b (map_insecure b M L a map g) (map_insecure b M' L a map g)
  unfolding map_insecure
  map_insecure_lem a map g =
      by_call _ _ (map_insecure_code_lem a map g)
      (λ z.
      let (al, type, now, good, low, place, out) = passes_map_insecure b M L a map g z in
      record { answer = refl; ledger = refl; memory = filled_both ok same al type (λ z. omega arith) map (slot_word g (rights_of map)) })

  removes : (p : ℕ) → Alike b (remove b M L p) (remove b M' L p)
  unfolding remove
  removes p =
      by_call _ _ refl
      (λ z.
      let l = page_below ok same p (passes_remove b L p z).0 in
      record { answer = refl; ledger = refl; memory = wiped_both ok.lent.memory same (b.secure + p) l })

  -- ---- the running space's calls
  module _ (turn : header L running_word ≡ running L + 1) where
    spare_table_lem : (p i : ℕ) → Alike b (spare_table b M L p i) (spare_table b M' L p i)
    unfolding spare_table spare_table_code
    spare_table_lem p i =
        let (al, type, now) = acts ok (running L) turn in
        by_call _ _ (or_after (λ _. index_both ok same al type (λ z. omega arith) i))
        (λ _. record { answer = refl; ledger = refl; memory = linked_both ok same al type (λ z. omega arith) i p })

    map_data_lem : (p map : ℕ) → Alike b (map_data b M L p map) (map_data b M' L p map)
    unfolding map_data map_data_code
    map_data_lem p map =
        let (al, type, now) = acts ok (running L) turn in
        by_call _ _ (or_after (λ _. or_after (λ _. addr_both ok same al type (λ z. omega arith) map)))
        (λ _. record { answer = refl; ledger = refl; memory = mapped_both ok same al type (λ z. omega arith) map p })

    unmap_data_lem : (p : ℕ) → Alike b (unmap_data b M L p) (unmap_data b M' L p)
    unfolding unmap_data
    unmap_data_lem p =
        by_call _ _ refl
        (λ z.
        let (al, type, now) = acts ok (running L) turn in
        let long = length-filled M b.secure (first_page L) (rec L p 2) 0 in
        record {
          answer = refl;
          ledger = refl;
          memory =
              wiped_both (long ∙ ok.lent.memory) (filled_both ok same al type (λ z. omega arith) (rec L p 2) 0) (b.secure + p)
              (page_below ok same p (passes_own b L p data_page 16 z).0);
        })

    module _ (va : ℕ) where
      loads : Alike b (load b M L va) (load b M' L va)
      unfolding fault
      loads =
          let (al, type, now) = acts ok (running L) turn in
          let t = translate_both ok same al type (λ z. omega arith) va false in
          by-slot M b.secure (first_page L) va false
          (λ e. rw (load_no b M L va e, load_no b M' L va (t ∙ e)) nothing)
          (λ v e.
          let word = open_both ok same (word_of va) (omega arith) (open_through ok (running L) turn va false e) in
          rw (load_yes b M L va e, load_yes b M' L va (t ∙ e))
          (record { answer = ap (λ (y : ℕ). 0 ∷ y ∷ []) word; ledger = refl; memory = same }))

      stores : (w : ℕ) → Alike b (store b M L va w) (store b M' L va w)
      unfolding fault
      stores w =
          let (al, type, now) = acts ok (running L) turn in
          let t = translate_both ok same al type (λ z. omega arith) va true in
          by-slot M b.secure (first_page L) va true
          (λ e. rw (store_no b M L va w e, store_no b M' L va w (t ∙ e)) nothing)
          (λ v e.
          rw (store_yes b M L va w e, store_yes b M' L va w (t ∙ e))
          (record { answer = refl; ledger = refl; memory = put_both ok.lent.memory same (frame_of v) (word_of va) w }))

  pub record_alike : Alike b (obey b M L W) (obey b M' L W)
  unfolding calls get_phys_pages init_addr_space init_thread alloc_spare finalise enter_thread resume stop free_pages get_random attest verify exit interrupt fault
  record_alike =
      by_rows b M L M' L W (Alike b) (λ _ _. nothing) (λ i. refl)
      ((λ _ _. nothing)
      and (λ _ _. still _ _ _)
      and (λ _ _. still _ _ _)
      and (λ _ _. init_table_lem (x 1) (x 2) (x 3))
      and (λ _ _. still _ _ _)
      and (λ _ _. map_secure_lem (x 1) (x 2) (x 3) (x 4))
      and (λ _ _. map_insecure_lem (x 1) (x 2) (x 3))
      and (λ _ _. still _ _ _)
      and (λ _ _. still _ _ _)
      and (λ _ _. still _ _ _)
      and (λ _ _. still _ _ _)
      and (λ _ _. removes (x 1))
      and (λ _ _. nothing)
      and (λ _ _. nothing)
      and (λ _ _. nothing)
      and (λ _ _. nothing)
      and (λ _ e. spare_table_lem (somebody_runs L 35 refl e) (x 1) (x 2))
      and (λ _ e. map_data_lem (somebody_runs L 36 refl e) (x 1) (x 2))
      and (λ _ e. unmap_data_lem (somebody_runs L 37 refl e) (x 1))
      and (λ _ _. nothing)
      and (λ _ _. nothing)
      and (λ _ _. nothing)
      and (λ _ e. loads (somebody_runs L 41 refl e) (x 1))
      and (λ _ e. stores (somebody_runs L 42 refl e) (x 1) (x 2))
      and tt)
