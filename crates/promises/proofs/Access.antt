-- A load or a store touches one word that its enclave may touch, and no data page is reached twice. Assumes nothing.
use Prim.Native.Nat.{ℕ, ◌/◌, ◌%◌, ◌<◌}
use mathlib.Core.Path.{◌≡◌, refl, sym, ap, ◌∙◌}
use mathlib.Core.Bool.{Bool, true, false, true≢false}
use mathlib.Core.Logic.{inl, inr, ⊎_elim}
use mathlib.Core.List.{List, [], ◌∷◌}
use native.Mathlib.Omega.{arith}
use lib.ListN.{drop}
use borrow.Author.Tests.{eq-eqb, eqb-true}
use Rattle.words.specs.Words.{all_zero}
use Rattle.machine.specs.declared.Machine.{Machine}
use Rattle.mapping.specs.Mapping.{page_bytes, index_of}
use Rattle.ledger.specs.Ledger.{rec, type_of, state_of, first_of}
use Rattle.ledger.specs.Names.{space, data_page, final, index_word}
use Rattle.memory.specs.Memory.{frame}
use Rattle.std.specs.Prelude.{Option, Some, None}
use Rattle.walk.specs.Walk.{translate}
use Rattle.walk.proofs.Laws.{Translates, translated, translates, by-slot, finds, found}
use Rattle.answer.specs.Answer.{Out}
use Rattle.accept.specs.Accept.{Is, Tables, Accepted}
use Rattle.enclave.specs.Calls.{first_page, fault, load, store}
use Rattle.enclave.proofs.Laws.{load_no, load_yes, store_no, store_yes}
use Rattle.records.specs.Records.{arg}
use Rattle.calls.specs.Table.{calls, lookup}
use Rattle.batch.specs.Batch.{obey}
use Rattle.batch.proofs.Obeyed.{parts}
use Rattle.kept.proofs.Facts.Leaves.{index_small, own_table}
use Rattle.kept.proofs.Facts.Acting.{acts}
use Rattle.kept.proofs.Facts.Bridge.{tables_of}
use Rattle.kept.proofs.Reach.{leads}
use Rattle.promises.specs.Terms.{Running}
use Rattle.promises.specs.Access.{Reaches, ReachedAlone, ReachedAloneAlways, OwnSlot, Allows, Open, Open.own, Open.shared, Faults, LoadTouchesOneWord, StoreTouchesOneWord, SameSlot, AccessTellsNoMore}
use Rattle.promises.proofs.Opened.{acted, runs_for}
use Rattle.promises.proofs.Kept.{history_keeps}

-- ---- no page is reached twice
-- a page that a space reaches is its data page, mapped there
reached : {b : Machine} {M L : List ℕ} {a v d : ℕ} → Accepted b M L → Reaches b M L a v d
    → Is b (rec L) a data_page d × (v / page_bytes ≡ rec L d 2 / page_bytes)
reached {d = d} ok r =
    ⊎_elim
    (λ (d', is_data, names, map). let same : d' ≡ d = omega (arith, r.names) in (rw same at is_data, rw same at map))
    (λ out. absurd (⊎_elim (λ l. omega (arith, r.names)) (λ l. omega (arith, r.names)) out.not_secure))
    (leads ok r.below r.is_space r.going (found r.found)).to

pub reached_alone : ReachedAlone
reached_alone b M L a v a' v' d ok r r' =
    let (i, e) = reached ok r in
    let (i', e') = reached ok r' in
    (sym i.own ∙ i'.own, e ∙ sym e')

pub reached_alone_always : ReachedAloneAlways
reached_alone_always b M₀ L₀ M L a v a' v' d ok h = reached_alone b M L a v a' v' d (history_keeps b M₀ L₀ M L ok h)

-- ---- the space of a running thread in an accepted state: an access is translated where its own table allows it
module _ {b : Machine} {M L : List ℕ} {a : ℕ} (ok : Accepted b M L) (runs : Running L a) where
  acting : (a < b.pages) × (type_of L a ≡ space) × (state_of L a ≡ final)
  acting = rw (runs_for runs) at (acts ok runs.page runs.word)

  tables : Tables b (rec L) (frame M) a
  tables = tables_of ok acting.0 acting.1 (λ z. omega (arith, acting.2))

  module _ (v : ℕ) (write : Bool) where
    abbrev for : Option ℕ
    for = translate M b.secure (first_of L a) v write

    through : translate M b.secure (first_page L) v write ≡ for
    through = ap (λ (o : ℕ). translate M b.secure (first_of L o) v write) (runs_for runs)

    pub yes_allows : {x : ℕ} → for ≡ Some x → Allows b M L a v write x
    yes_allows {x} e =
        let t = translated M b.secure (first_of L a) v write e in
        let (is-own, index) = own_table tables t.holds in
        record {
          aligned = t.aligned;
          slot =
              record { table = t.holds.table; is_table = is-own; index = index ∙ omega (arith, t.low); holds = t.holds.slot; full = t.taken };
          right = λ w. eqb-true (x / 2 % 2) 1 (t.right w);
        }

    allows_slot : {x : ℕ} → Allows b M L a v write x → Translates M b.secure (first_of L a) v write x
    allows_slot {x} p =
        let o = p.slot in
        let index = o.index in
        let small = index_small ok.rules.pages o.is_table in
        let same : index_of v ≡ rec L o.table index_word = omega arith in
        record {
          aligned = p.aligned;
          low = omega arith;
          holds = record { table = o.table; named = rw same (tables.named o.table o.is_table); slot = o.holds };
          taken = o.full;
          right = λ w. eq-eqb (x / 2 % 2) 1 (p.right w);
        }

    allows_yes : {x : ℕ} → Allows b M L a v write x → for ≡ Some x
    allows_yes p = translates M b.secure (first_of L a) v write (allows_slot p)

    -- by what the table has: nothing that allows it, or one word
    by_table : {C : Type 0} → (translate M b.secure (first_page L) v write ≡ None → ((x : ℕ) → Allows b M L a v write x → ⊥) → C)
        → ((x : ℕ) → translate M b.secure (first_page L) v write ≡ Some x → Allows b M L a v write x → C) → C
    by_table refuses gives =
        by-slot M b.secure (first_of L a) v write
        (λ e. refuses (through ∙ e) (λ x p. let y = allows_yes p in let z : ◌≡◌ {A = ℕ} 0 1 = cc in omega arith))
        (λ x e. gives x (through ∙ e) (yes_allows e))

  -- what lets a store through lets a load through
  read_too : {v x : ℕ} {write : Bool} → Allows b M L a v write x → Allows b M L a v false x
  read_too p = record { aligned = p.aligned; slot = p.slot; right = λ w. absurd (true≢false (sym w)) }

  opens : (v : ℕ) (write : Bool) {x : ℕ} → Allows b M L a v write x → Open b M L a v (x / page_bytes)
  opens v write {x} p =
      let (below, type, now) = acting in
      ⊎_elim
      (λ (d, is_data, names, _).
      own d is_data
      (record {
        below = below;
        is_space = type;
        going = λ z. omega arith;
        page = is_data.below;
        slot = x;
        found = finds (allows_slot v false (read_too p));
        names = names;
      })
      names)
      shared
      (leads ok below type (λ z. omega arith) (allows_slot v write p)).to

-- ---- a record with zeros after its arguments passes, while a thread runs
module _ (b : Machine) (M L W : List ℕ) {a : ℕ} (runs : Running L a) where
  loaded : arg W 0 ≡ 41 → all_zero (drop 2 W) ≡ true → obey b M L W ≡ load b M L (arg W 1)
  unfolding lookup calls
  loaded = acted refl b M L W refl (λ n. omega (arith, runs.word))

  stored : arg W 0 ≡ 42 → all_zero (drop 3 W) ≡ true → obey b M L W ≡ store b M L (arg W 1) (arg W 2)
  unfolding lookup calls
  stored = acted refl b M L W refl (λ n. omega (arith, runs.word))

-- ---- loads and stores
faults : {b : Machine} {M L : List ℕ} {a v : ℕ} {write : Bool} {o : Out} → ((x : ℕ) → Allows b M L a v write x → ⊥) → o ≡ fault M L
    → Faults b M L a v write o
unfolding fault
faults why e = let (memory, ledger, answer) = parts e in record { why = why; answer = answer; memory = memory; ledger = ledger }

pub load_touches_one_word : LoadTouchesOneWord
load_touches_one_word b M L W a r =
    let v = arg W 1 in
    rw (loaded b M L W r.runs r.asks r.zeros)
    (by_table r.accepted r.runs v false
    (λ no why. inl (faults why (load_no b M L v no)))
    (λ x yes p.
    let (memory, ledger, answer) = parts (load_yes b M L v yes) in
    inr (record { slot = x; allowed = p; may = opens r.accepted r.runs v false p; answer = answer; memory = memory; ledger = ledger })))

pub store_touches_one_word : StoreTouchesOneWord
store_touches_one_word b M L W a r =
    let v = arg W 1 in
    rw (stored b M L W r.runs r.asks r.zeros)
    (by_table r.accepted r.runs v true
    (λ no why. inl (faults why (store_no b M L v (arg W 2) no)))
    (λ x yes p.
    let (memory, ledger, answer) = parts (store_yes b M L v (arg W 2) yes) in
    inr (record { slot = x; allowed = p; may = opens r.accepted r.runs v true p; answer = answer; memory = memory; ledger = ledger })))

-- ---- the answer is of the slot alone
-- a slot that allows an access in one state is as good in another that has it too
moved : {b b' : Machine} {M L M' L' : List ℕ} {a a' v x : ℕ} {write : Bool} → (OwnSlot b M L a v x → OwnSlot b' M' L' a' v x)
    → Allows b M L a v write x → Allows b' M' L' a' v write x
moved on p = record { aligned = p.aligned; slot = on p.slot; right = p.right }

same_fault : (M L M' L' : List ℕ) → (fault M L).ans ≡ (fault M' L').ans
unfolding fault
same_fault M L M' L' = refl

module _ {b b' : Machine} {M L M' L' : List ℕ} {a a' v : ℕ} (same : SameSlot b b' M L M' L' a a' v)
    (ok : Accepted b M L) (runs : Running L a) (ok' : Accepted b' M' L') (runs' : Running L' a') where
  -- both find nothing, or both the same word
  by_both : (write : Bool) {C : Type 0}
      → (translate M b.secure (first_page L) v write ≡ None → translate M' b'.secure (first_page L') v write ≡ None → C)
      → ((x : ℕ) → translate M b.secure (first_page L) v write ≡ Some x → translate M' b'.secure (first_page L') v write ≡ Some x
      → OwnSlot b M L a v x → C) → C
  by_both write refuses gives =
      by_table ok runs v write
      (λ no why. by_table ok' runs' v write (λ no' _. refuses no no') (λ x _ p. absurd (why x (moved (same.back x) p))))
      (λ x yes p. gives x yes (through ok' runs' v write ∙ allows_yes ok' runs' v write (moved (same.there x) p)) p.slot)

  loads_same : (load b M L v).ans ≡ (load b' M' L' v).ans
  loads_same =
      by_both false
      (λ no no'. (parts (load_no b M L v no)).2 ∙ same_fault M L M' L' ∙ sym (parts (load_no b' M' L' v no')).2)
      (λ x yes yes' o.
      (parts (load_yes b M L v yes)).2 ∙ ap (λ (y : ℕ). 0 ∷ y ∷ []) (same.word x o) ∙ sym (parts (load_yes b' M' L' v yes')).2)

  stores_same : (w : ℕ) → (store b M L v w).ans ≡ (store b' M' L' v w).ans
  stores_same w =
      by_both true
      (λ no no'. (parts (store_no b M L v w no)).2 ∙ same_fault M L M' L' ∙ sym (parts (store_no b' M' L' v w no')).2)
      (λ x yes yes' o. (parts (store_yes b M L v w yes)).2 ∙ sym (parts (store_yes b' M' L' v w yes')).2)

pub access_tells_no_more : AccessTellsNoMore
access_tells_no_more b b' M L M' L' W a a' same =
    ⊎_elim
    (λ (r, r').
    rw (loaded b M L W r.runs r.asks r.zeros, loaded b' M' L' W r'.runs r'.asks r'.zeros)
    (loads_same same r.accepted r.runs r'.accepted r'.runs))
    (λ (r, r').
    rw (stored b M L W r.runs r.asks r.zeros, stored b' M' L' W r'.runs r'.asks r'.zeros)
    (stores_same same r.accepted r.runs r'.accepted r'.runs (arg W 2)))
