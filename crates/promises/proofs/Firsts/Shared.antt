-- The tests that several rows share, each with the code that answers it. Assumes nothing.
use Prim.Native.Nat.{ℕ, zero, suc, ◌+◌, ◌-◌, ◌/◌, ◌%◌, ◌^◌, ◌≤◌, ◌<◌}
use mathlib.Core.Path.{◌≡◌, refl, sym, ap, ◌∙◌}
use mathlib.Core.Bool.{Bool, true, false, not, ◌&&◌, true≢false}
use mathlib.Core.Logic.{◌⊎◌, inl, inr, ⊎_elim}
use mathlib.Core.List.{List, [], ◌∷◌}
use native.Mathlib.Omega.{arith}
use lib.Dec.{eqb, leb, ltb}
use lib.ListN.{get_or, drop}
use lib.Seq.{get_or-drop}
use borrow.Author.Tests.{eq-eqb, ne_eqb, not-true, not-false}
use Rattle.words.specs.Words.{Says, pick, when, or, all_zero}
use Rattle.words.proofs.Cases.{lt_or_ge, same_or}
use Rattle.words.proofs.Says.{says_same}
use Rattle.machine.specs.declared.Machine.{Machine}
use Rattle.machine.specs.Machine.{Insecure, insecure}
use Rattle.machine.proofs.Laws.{insecure_holds, holds_insecure}
use Rattle.mapping.specs.Mapping.{most_tables, index_of, slot_of, executes, well_formed}
use Rattle.mapping.specs.Entry.{legal_entry}
use Rattle.ledger.specs.Ledger.{header, type_of, owner_of, state_of}
use Rattle.ledger.specs.Names.{running_word, free, space, thread, building, final}
use Rattle.memory.specs.Memory.{frame}
use Rattle.std.specs.Prelude.{Option, Some, None}
use Rattle.walk.specs.declared.Slot.{Slot}
use Rattle.walk.specs.Walk.{walk}
use Rattle.walk.proofs.Laws.{walk_nothing, walk_table, by_word}
use Rattle.answer.specs.Refusals.{ill_formed, slot_taken, not_insecure, bad_record, no_such_index, bad_entry}
use Rattle.answer.specs.Answer.{as_code, pg_code, building_code, taken_code, addr_code, index_code, owner}
use Rattle.system.specs.Calls.{thread_code}
use Rattle.enclave.specs.Calls.{own_code}
use Rattle.records.specs.Records.{turn_code, form_code}
use Rattle.promises.specs.Firsts.{Tests, ◌gives◌else◌, Not, MoreWords, systems, enclaves, AS, PG, Building, Legal, Shaped, Taken, ADDR, Shut, INDEX, OWN, THREAD}
use Rattle.promises.proofs.Firsts.Order.{Firsts, none, here, past, or_assoc, ◌then◌, test, not_says, says, eq_says, ne_says, lt_says, test_eq, test_ne, test_le, test_two}

-- ---- 19, then 15
-- a word of ws is not zero
more_says : (ws : List ℕ) → Says (not (all_zero ws)) ((j : ℕ) × (get_or ws j 0 ≡ 0 → ⊥))
unfolding all_zero
more_says [] = λ (j, n). n refl
more_says (x ∷ xs) =
    ⊎_elim (λ z. rw (eq-eqb x 0 z) (says_same (not (all_zero xs)) (λ (j, n). (suc j, n)) (λ (j, n). less z j n) (more_says xs)))
    (λ n. rw (ne_eqb x 0 n) (0, n)) (same_or x 0)
  where
    less : x ≡ 0 → (j : ℕ) → (get_or (x ∷ xs) j 0 ≡ 0 → ⊥) → (i : ℕ) × (get_or xs i 0 ≡ 0 → ⊥)
    less z zero n = absurd (n z)
    less z (suc j) n = (j, n)

module _ (L W : List ℕ) where
  more_first : (k : ℕ) → Firsts (λ after. MoreWords k W gives bad_record else after) (when (not (all_zero (drop (1 + k) W))) bad_record)
  more_first k =
      test (not (all_zero (drop (1 + k) W))) 18
      (says_same (not (all_zero (drop (1 + k) W)))
      (λ (j, n). (1 + k + j, omega arith, λ z. n (get_or-drop (1 + k) W j 0 ∙ z)))
      (λ (i, l, n). (
        i - (1 + k),
        λ z. n (ap (λ (x : ℕ). get_or W x 0) {x = i} {y = 1 + k + (i - (1 + k))} (omega arith)
            ∙ sym (get_or-drop (1 + k) W (i - (1 + k)) 0) ∙ z),
      ))
      (more_says (drop (1 + k) W)))

  pub system_first : (i k : ℕ) → ltb i 32 ≡ true → Firsts (systems k L W) (form_code L i k W)
  unfolding form_code turn_code
  system_first i k e = rw e (more_first k then test_ne (header L running_word) 0 14)

  pub enclave_first : (i k : ℕ) → ltb i 32 ≡ false → Firsts (enclaves k L W) (form_code L i k W)
  unfolding form_code turn_code
  enclave_first i k e = rw e (more_first k then test_eq (header L running_word) 0 14)

-- ---- pages
module _ (b : Machine) (L : List ℕ) where
  pub as_first : (a : ℕ) → Firsts (AS b L a) (as_code b L a)
  unfolding as_code
  as_first a = test_le b.pages a 0 then test_ne (type_of L a) space 2

  pub pg_first : (p : ℕ) → Firsts (PG b L p) (pg_code b L p)
  unfolding pg_code
  pg_first p = test_le b.pages p 0 then test_ne (type_of L p) free 1

  pub building_first : (a : ℕ) → Firsts (λ after. AS b L a (Building L a after)) (building_code b L a)
  unfolding building_code
  building_first a = as_first a then test_ne (state_of L a) building 3

  pub thread_first : (t : ℕ) → Firsts (THREAD b L t) (thread_code b L t)
  unfolding thread_code
  thread_first t =
      test_le b.pages t 0 then test_ne (type_of L t) thread 9 then test_ne (state_of L (owner_of L t)) final 4

  pub own_first : (t c p : ℕ) → Firsts (OWN b L t (suc c) p) (own_code b L p t (suc c))
  unfolding own_code
  own_first t c p =
      test_le b.pages p 0
      then test_two (not (eqb (owner_of L p) (owner L))) (not (eqb (type_of L p) t)) c (ne_says (owner_of L p) (owner L)) (ne_says (type_of L p) t)

-- ---- an entry
pub legal_says : (entry : ℕ) → Says (legal_entry entry) (Legal entry)
unfolding legal_entry
legal_says entry =
    go (eqb (entry % 4) 0) (ltb entry (2 ^ 30)) (eq_says (entry % 4) 0) (lt_says entry (2 ^ 30))
  where
    go : (t u : Bool) → Says t (entry % 4 ≡ 0) → Says u (entry < 2 ^ 30) → Says (t && u) (Legal entry)
    go true true m l = record { multiple = m; low = l }
    go true false m n = λ s. n s.low
    go false u n l = λ s. n s.multiple

pub legal_first : (entry : ℕ) → Firsts (λ after. Not (Legal entry) gives bad_entry else after) (when (not (legal_entry entry)) bad_entry)
legal_first entry = test (not (legal_entry entry)) 22 (not_says (Legal entry) (legal_entry entry) (legal_says entry))

-- ---- a mapping word
shaped_says : (map : ℕ) → Says (well_formed map) (Shaped map)
unfolding well_formed
shaped_says map =
    go (eqb (map % 2) 1) (eqb (map / 2 ^ 3 % 2 ^ 9) 0) (ltb map (2 ^ 30)) (eq_says (map % 2) 1) (eq_says (map / 2 ^ 3 % 2 ^ 9) 0)
    (lt_says map (2 ^ 30))
  where
    go : (t u v : Bool) → Says t (map % 2 ≡ 1) → Says u (map / 2 ^ 3 % 2 ^ 9 ≡ 0) → Says v (map < 2 ^ 30) → Says (t && (u && v)) (Shaped map)
    go true true true r z l = record { reads = r; zeros = z; low = l }
    go true true false r z n = λ s. n s.low
    go true false v r n l = λ s. n s.zeros
    go false u v n z l = λ s. n s.reads

ill_says : (map : ℕ) → Says (not (well_formed map)) (Not (Shaped map))
ill_says map = not_says (Shaped map) (well_formed map) (shaped_says map)

pub shaped_first : (map : ℕ) → Firsts (λ after. Not (Shaped map) gives ill_formed else after) (when (not (well_formed map)) ill_formed)
shaped_first map = test (not (well_formed map)) 5 (ill_says map)

-- ill-formed or execute, then what comes after
pub plain_first : (map : ℕ) {P : Tests → Tests} {x : ℕ} → Firsts P x
    → Firsts (λ after. (Not (Shaped map) ⊎ (map / 4 % 2 ≡ 1)) gives ill_formed else P after)
    (or (when (not (well_formed map)) ill_formed) (or (when (executes map) ill_formed) x))
plain_first map {x = x} p =
    rw (← or_assoc (when (not (well_formed map)) ill_formed) (when (executes map) ill_formed) x)
    (test_two (not (well_formed map)) (executes map) 5 (ill_says map) (eq_says (map / 4 % 2) 1) then p)

-- ---- the place that an index or an address names
module _ (b : Machine) (M : List ℕ) (f : ℕ) where
  pub index_first : (i : ℕ) → Firsts (INDEX b M f i) (index_code M b.secure f i)
  unfolding index_code or
  index_first i =
      rw (split (leb most_tables i) (eqb (frame M (b.secure + f) i) 0))
      (test_le most_tables i 20 then test_ne (frame M (b.secure + f) i) 0 6)
    where
      split : (t u : Bool) → pick t no_such_index (pick u 0 slot_taken) ≡ or (when t no_such_index) (when (not u) slot_taken)
      split true u = refl
      split false true = refl
      split false false = refl

  -- table T is named for address va; and the address's slot there
  abbrev pub Names : ℕ → ℕ → Type 0
  Names va T = frame M (b.secure + f) (index_of va) ≡ T + 1

  abbrev pub slot : ℕ → ℕ → ℕ
  slot va T = frame M (b.secure + T) (slot_of va)

  pub one_slot : (va T U : ℕ) → Names va T → Names va U → slot va T ≡ slot va U
  one_slot va T U t u = ap (slot va) {x = T} {y = U} (omega arith)

  -- a code of what the walk finds, by the first-level word
  pub by_table : {P : Tests → Tests} (code : Option Slot → ℕ) (va : ℕ) → (frame M (b.secure + f) (index_of va) ≡ 0 → Firsts P (code None))
      → ((T : ℕ) → Names va T → Firsts P (code (Some (record { table = T; word = slot va T })))) → Firsts P (code (walk 2 M b.secure f va))
  by_table code va nothing named =
      by_word M b.secure f va (λ z. rw (walk_nothing M b.secure f va z) (nothing z))
      (λ T t. rw (walk_table M b.secure f va T t) (named T t))

  pub addr_first : (map : ℕ) → Firsts (ADDR b M f map) (addr_code M b.secure f map)
  unfolding addr_code
  addr_first map = by_table taken_code map here (λ T t. past (λ z. omega arith) (taken T t (same_or (slot map T) 0)))
    where
      taken : (T : ℕ) → Names map T → (slot map T ≡ 0) ⊎ Not (slot map T ≡ 0)
          → Firsts (λ after. Taken b M f map gives slot_taken else after) (taken_code (Some (record { table = T; word = slot map T })))
      taken T t (inl z) = rw (eq-eqb (slot map T) 0 z) (past (λ x. x.full (one_slot map x.table T x.linked t ∙ z)) none)
      taken T t (inr n) = rw (ne_eqb (slot map T) 0 n) (here (record { table = T; linked = t; full = n }))

-- ---- a frame: outside the c frames from a on, or one of them
outside_or : (a c g : ℕ) → ((g < a) ⊎ (a + c ≤ g)) ⊎ ((a ≤ g) × (g < a + c))
outside_or a c g = ⊎_elim (λ l. inl (inl l)) (λ l. ⊎_elim (λ m. inr (l, m)) (λ m. inl (inr m)) (lt_or_ge g (a + c))) (lt_or_ge g a)

pub shut_first : (b : Machine) (g : ℕ) → Firsts (λ after. Shut b g gives not_insecure else after) (when (not (insecure b g)) not_insecure)
shut_first b g =
    test (not (insecure b g)) 8
    (says (not (insecure b g))
    (λ e. shut (λ i. true≢false (sym (holds_insecure b g i) ∙ not-true (insecure b g) e)))
    (λ e. not_shut (insecure_holds b g (not-false (insecure b g) e))))
  where
    shut : Not (Insecure b g) → Shut b g
    shut n =
        ⊎_elim
        (λ l.
        ⊎_elim
        (λ s.
        ⊎_elim (λ m. absurd (n (record { below = l; not_secure = s; not_monitor = m }))) (λ m. inr (inr (record { from = m.0; to = m.1 })))
        (outside_or b.monitor b.monitors g))
        (λ s. inr (inl (record { from = s.0; to = s.1 }))) (outside_or b.secure b.pages g))
        inl (lt_or_ge g b.frames)

    not_shut : Insecure b g → Shut b g → ⊥
    not_shut i =
        ⊎_elim (λ l. omega (arith, i.below))
        (⊎_elim (λ s. ⊎_elim (λ l. omega (arith, s.from)) (λ l. omega (arith, s.to)) i.not_secure)
        (λ m. ⊎_elim (λ l. omega (arith, m.from)) (λ l. omega (arith, m.to)) i.not_monitor))
