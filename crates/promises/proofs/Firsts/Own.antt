-- The tests of Remove, of a load and of a store, which no other row shares. Assumes nothing.
use Prim.Native.Nat.{ℕ, ◌/◌, ◌%◌, ◌^◌, ◌≤◌, ◌<◌}
use mathlib.Core.Path.{◌≡◌, refl, ◌∙◌}
use mathlib.Core.Bool.{Bool, true, false, not, ◌&&◌}
use mathlib.Core.Logic.{◌⊎◌, inl, inr, ⊎_elim}
use mathlib.Core.List.{List}
use native.Mathlib.Omega.{arith}
use lib.Dec.{eqb}
use borrow.Author.Tests.{eqb-true, eqb-false, le-leb, lt-leb, eq-eqb, ne_eqb, not-true, not-false}
use Rattle.words.specs.Words.{pick, when, or}
use Rattle.words.proofs.Cases.{lt_or_ge, same_or}
use Rattle.machine.specs.declared.Machine.{Machine}
use Rattle.mapping.specs.Mapping.{writes}
use Rattle.ledger.specs.Ledger.{type_of, owner_of, state_of, count_of}
use Rattle.ledger.specs.Names.{space, spare, stopped}
use Rattle.std.specs.Prelude.{Option, Some, None}
use Rattle.walk.specs.Walk.{allowed, translate}
use Rattle.answer.specs.Refusals.{not_stopped, still_owns, faulted}
use Rattle.system.specs.Calls.{remove_space_code, remove_other_code}
use Rattle.enclave.specs.Calls.{fault, first_page, load, store}
use Rattle.enclave.proofs.Laws.{by_load, by_store}
use Rattle.promises.specs.Terms.{code_of}
use Rattle.promises.specs.Firsts.{Tests, ◌gives◌else◌, Not, Taken, ACCESS, NoWrite, SpaceGoing, SpaceOwns, OwnerGoing}
use Rattle.promises.proofs.Firsts.Order.{Firsts, none, here, past, test, says}
use Rattle.promises.proofs.Firsts.Shared.{Names, slot, one_slot, by_table}

-- ---- 12: a space, or another page
pub remove_first : (L : List ℕ) (p : ℕ)
    → Firsts (λ after. SpaceGoing L p gives not_stopped else SpaceOwns L p gives still_owns else OwnerGoing L p gives not_stopped else after)
    (pick (eqb (type_of L p) space) (remove_space_code L p) (remove_other_code L p))
unfolding remove_space_code remove_other_code or
remove_first L p =
    ⊎_elim (λ e. rw (eq-eqb (type_of L p) space e) (of_space e (same_or (state_of L p) stopped) (same_or (count_of L p) 0)))
    (λ n.
    rw (ne_eqb (type_of L p) space n)
    (past (λ x. n x.is_space) (past (λ x. n x.is_space)
    (of_other n (same_or (type_of L p) spare) (same_or (state_of L (owner_of L p)) stopped)))))
    (same_or (type_of L p) space)
  where
    of_space : type_of L p ≡ space → (state_of L p ≡ stopped) ⊎ Not (state_of L p ≡ stopped) → (count_of L p ≡ 0) ⊎ Not (count_of L p ≡ 0)
        → Firsts (λ after. SpaceGoing L p gives not_stopped else SpaceOwns L p gives still_owns else OwnerGoing L p gives not_stopped else after)
        (or (when (not (eqb (state_of L p) stopped)) not_stopped) (when (not (eqb (count_of L p) 0)) still_owns))
    of_space e (inr n) c = rw (ne_eqb (state_of L p) stopped n) (here (record { is_space = e; going = n }))
    of_space e (inl s) (inr n) =
        rw (eq-eqb (state_of L p) stopped s) (rw (ne_eqb (count_of L p) 0 n) (past (λ x. x.going s) (here (record { is_space = e; owns = n }))))
    of_space e (inl s) (inl z) =
        rw (eq-eqb (state_of L p) stopped s) (rw (eq-eqb (count_of L p) 0 z)
        (past (λ x. x.going s) (past (λ x. x.owns z) (past (λ x. x.no_space e) none))))

    of_other : Not (type_of L p ≡ space) → (type_of L p ≡ spare) ⊎ Not (type_of L p ≡ spare)
        → (state_of L (owner_of L p) ≡ stopped) ⊎ Not (state_of L (owner_of L p) ≡ stopped)
        → Firsts (λ after. OwnerGoing L p gives not_stopped else after)
        (pick (eqb (type_of L p) spare) 0 (when (not (eqb (state_of L (owner_of L p)) stopped)) not_stopped))
    of_other n (inl e) s = rw (eq-eqb (type_of L p) spare e) (past (λ x. x.no_spare e) none)
    of_other n (inr m) (inl s) = rw (ne_eqb (type_of L p) spare m) (rw (eq-eqb (state_of L (owner_of L p)) stopped s) (past (λ x. x.going s) none))
    of_other n (inr m) (inr g) =
        rw (ne_eqb (type_of L p) spare m) (rw (ne_eqb (state_of L (owner_of L p)) stopped g)
        (here (record { no_space = n; no_spare = m; going = g })))

-- ---- 41, 42: an access by what it is translated to
abbrev fault_code : Option ℕ → ℕ
fault_code None = faulted
fault_code (Some v) = 0

module _ (b : Machine) (M L : List ℕ) (va : ℕ) where
  load_code : code_of (load b M L va) ≡ fault_code (translate M b.secure (first_page L) va false)
  unfolding fault
  load_code = by_load b M L va (λ o. code_of o ≡ fault_code (translate M b.secure (first_page L) va false)) (λ e. rw e) (λ v e. rw e)

  store_code : (w : ℕ) → code_of (store b M L va w) ≡ fault_code (translate M b.secure (first_page L) va true)
  unfolding fault
  store_code w = by_store b M L va w (λ o. code_of o ≡ fault_code (translate M b.secure (first_page L) va true)) (λ e. rw e) (λ v e. rw e)

  -- where the address has a slot that is not empty, the right to write decides
  access_first : (write : Bool) {P : Tests → Tests}
      → ((T : ℕ) → Names b M (first_page L) va T → Firsts P (when (write && not (writes (slot b M (first_page L) va T))) faulted))
      → Firsts (λ after. ACCESS b M L va (P after)) (fault_code (translate M b.secure (first_page L) va write))
  unfolding translate
  access_first write {P} right = go (same_or (va % 4) 0) (lt_or_ge va (2 ^ 30))
    where
      allows : (t : Bool) (v : ℕ) → fault_code (pick t None (Some v)) ≡ when t faulted
      allows true v = refl
      allows false v = refl

      taken : (T : ℕ) → Names b M (first_page L) va T → (slot b M (first_page L) va T ≡ 0) ⊎ Not (slot b M (first_page L) va T ≡ 0)
          → Firsts (λ after. Not (Taken b M (first_page L) va) gives faulted else P after)
          (fault_code (allowed write (Some (record { table = T; word = slot b M (first_page L) va T }))))
      taken T t (inl z) =
          rw (eq-eqb (slot b M (first_page L) va T) 0 z) (here (λ x. x.full (one_slot b M (first_page L) va x.table T x.linked t ∙ z)))
      taken T t (inr n) =
          let v = slot b M (first_page L) va T in
          rw (ne_eqb v 0 n) (rw (allows (write && not (writes v)) v) (past (λ x. x (record { table = T; linked = t; full = n })) (right T t)))

      go : (va % 4 ≡ 0) ⊎ Not (va % 4 ≡ 0) → (va < 2 ^ 30) ⊎ (2 ^ 30 ≤ va)
          → Firsts (λ after. ACCESS b M L va (P after)) (fault_code (translate M b.secure (first_page L) va write))
      go (inr n) l = rw (ne_eqb (va % 4) 0 n) (here n)
      go (inl e) (inr h) = rw (eq-eqb (va % 4) 0 e) (rw (le-leb (2 ^ 30) va h) (past (λ n. n e) (here h)))
      go (inl e) (inl l) =
          rw (eq-eqb (va % 4) 0 e) (rw (lt-leb (2 ^ 30) va l)
          (past (λ n. n e) (past (λ h. omega arith)
          (by_table b M (first_page L) (λ w. fault_code (allowed write w)) va (λ z. here (λ x. omega (arith, x.linked)))
          (λ T t. taken T t (same_or (slot b M (first_page L) va T) 0))))))

  pub load_first : Firsts (ACCESS b M L va) (code_of (load b M L va))
  load_first = rw load_code (access_first false (λ T t. none))

  pub store_first : (w : ℕ) → Firsts (λ after. ACCESS b M L va (NoWrite b M L va gives faulted else after)) (code_of (store b M L va w))
  store_first w =
      rw (store_code w)
      (access_first true (λ T t.
      let v = slot b M (first_page L) va T in
      test (not (writes v)) 32
      (says (not (writes v))
      (λ e.
      let n = eqb-false (v / 2 % 2) 1 (not-true (writes v) e) in
      record { table = T; linked = t; right = omega arith })
      (λ e x.
      let y = eqb-true (v / 2 % 2) 1 (not-false (writes v) e) in
      omega (arith, x.right, one_slot b M (first_page L) va x.table T x.linked t)))))
