-- What a slot's value says, taken apart as the code takes it. Assumes nothing.
use Prim.Native.Nat.{ℕ, ◌+◌, ◌-◌, ◌/◌, ◌%◌, ◌<◌}
use mathlib.Core.Path.{◌≡◌, refl, subst}
use mathlib.Core.Bool.{Bool, true, false}
use mathlib.Core.List.{List}
use mathlib.Core.Logic.{◌⊎◌, inl, inr, ⊎_elim}
use native.Mathlib.Decide.{dec_lt, ℕ_discrete}
use native.Mathlib.Omega.{arith}
use lib.Dec.{ltb}
use lib.ListN.{get_or}
use borrow.Author.Tests.{lt-ltb, le-ltb}
use Rattle.words.specs.Words.{Says}
use Rattle.accept.proofs.Words.{Shows, says_by}
use Rattle.machine.specs.declared.Machine.{Machine}
use Rattle.machine.specs.Machine.{Insecure}
use Rattle.mapping.specs.Mapping.{index_of}
use Rattle.walk.specs.Walk.{slot_word}
use Rattle.accept.specs.Accept.{Words, SlotOk, SlotOk.empty, SlotOk.outside, SlotOk.inside}
use Rattle.accept.specs.Checks.{Names, Inside, Reached, SlotsPass}

-- ---- what a test says of each slot that is in use, P where it says yes, says P of all, where it holds of an empty one
module _ (P : ℕ → ℕ → Type 0) {post : ℕ → ℕ → Bool → Type 0} {ss : List ℕ} {q : Bool} (s : SlotsPass post ss q) {r : ℕ → ℕ} {n : ℕ} (shown : Shows ss r n)
    (yes_is : (j v : ℕ) → post j v true → P j v) (no_is : (j v : ℕ) → post j v false → P j v → ⊥) (empty_is : (j : ℕ) → P j 0) where
  one_is : q ≡ true → (j : ℕ) → j < n → Dec (get_or ss j 0 ≡ 0) → P j (get_or ss j 0)
  one_is e j l (yes z) = rw z (empty_is j)
  one_is e j l (no full) = yes_is j (get_or ss j 0) (s.all e j (omega (arith, shown.size), full))

  pub all_pass : q ≡ true → (j : ℕ) → j < n → P j (r j)
  all_pass e j l = rw (← shown.at j l) (one_is e j l (ℕ_discrete (get_or ss j 0) 0))

  pub some_fails : q ≡ false → ((j : ℕ) → j < n → P j (r j)) → ⊥
  some_fails e all =
      let f = s.some e in
      let l : f.0 < n = omega (arith, shown.size, f.1.0) in
      no_is f.0 (get_or ss f.0 0) f.2 (rw (shown.at f.0 l) (all f.0 l))

  pub says_slots : Says q ((j : ℕ) → j < n → P j (r j))
  says_slots = says_by q all_pass some_fails

-- a test of a bound says what the demand comes to
pub says_below : {C : Type 0} (a b : ℕ) → (a < b → C) → (C → a < b) → Says (ltb a b) C
says_below {C} a b to from = go (dec_lt a b)
  where
    go : Dec (a < b) → Says (ltb a b) C
    go (yes l) = rw (lt-ltb a b l) (to l)
    go (no n) = rw (le-ltb a b (omega arith)) (λ x. n (from x))

-- ---- a first-level slot that is empty
pub names_empty : {b : Machine} {w : Words} {a i v : ℕ} → v ≡ 0 → Names b w a i v
names_empty e = record { table = λ T x. absurd (omega arith) }

-- ---- a second-level slot that is not empty
pub record Slot (b : Machine) (w : Words) (a i j f r : ℕ) : Type 0 where
  pub small : r < 8
  pub reads : r % 2 ≡ 1
  pub where_to : (Insecure b f × (r < 4)) ⊎ Inside b w a i j f r

apart : (v f r : ℕ) → r < 8 → v ≡ slot_word f r → (v / 4096 ≡ f) × (v % 4096 ≡ r)
apart v f r l e = (omega arith, omega arith)

whole : (v : ℕ) → slot_word (v / 4096) (v % 4096) ≡ v
whole v = omega arith

module _ {b : Machine} {w : Words} {a i j : ℕ} where
  pub slot_must : {v : ℕ} → (v ≡ 0 → ⊥) → SlotOk b w a i j v → Slot b w a i j (v / 4096) (v % 4096)
  slot_must full empty = absurd (full refl)
  slot_must {v} full (outside f r is l o) =
      let p = apart v f r (omega arith) refl in
      rw (p.0, p.1) (record { small = omega arith; reads = o; where_to = inl (is, l) })
  slot_must {v} full (inside d r is e l o) =
      let p = apart v (b.secure + d) r l refl in
      let q : b.secure + d - b.secure ≡ d = omega arith in
      rw (p.0, p.1)
      (record { small = l; reads = o; where_to = inr (record { above = omega arith; page = rw q is; map = rw q e }) })

  pub slot_outside : (v : ℕ) → Insecure b (v / 4096) → v % 4096 < 4 → v % 4096 % 2 ≡ 1 → SlotOk b w a i j v
  slot_outside v is l o = subst (SlotOk b w a i j) (whole v) (outside (v / 4096) (v % 4096) is l o)

  pub slot_inside : (v : ℕ) → Inside b w a i j (v / 4096) (v % 4096) → v % 4096 < 8 → v % 4096 % 2 ≡ 1 → SlotOk b w a i j v
  slot_inside v x l o =
      let f : b.secure + (v / 4096 - b.secure) ≡ v / 4096 = omega (arith, x.above) in
      subst (SlotOk b w a i j) (rw f (whole v)) (inside (v / 4096 - b.secure) (v % 4096) x.page x.map l o)

  -- a secure page's frame is not insecure, so each frame leaves one way
  not_both : {f r : ℕ} → Insecure b f → Inside b w a i j f r → ⊥
  not_both n x = ⊎_elim (λ l. omega (arith, x.above)) (λ l. omega (arith, x.page.below)) n.not_secure

  pub insecure_must : {f r : ℕ} → Slot b w a i j f r → Insecure b f → r < 4
  insecure_must s n = ⊎_elim (λ x. x.1) (λ x. absurd (not_both n x)) s.where_to

  pub inside_must : {f r : ℕ} → Slot b w a i j f r → (Insecure b f → ⊥) → Inside b w a i j f r
  inside_must s n = ⊎_elim (λ x. absurd (n x.0)) (λ x. x) s.where_to

-- ---- a word of a page that is named by words read before
pub word_at_lem : (m : Words) (s : ℕ) {v f g i k : ℕ} → v ≡ m (s + f) i → f ≡ g → i ≡ k → v ≡ m (s + g) k
word_at_lem m s e p q = cc

-- ---- a data page whose first-level slot holds v
pub reached_full : {b : Machine} {w m : Words} {a d v : ℕ} → v ≡ m (b.secure + w a 2) (index_of (w d 2)) → Reached b w m a d → v ≡ 0 → ⊥
reached_full named x e = omega (arith, x.named)
