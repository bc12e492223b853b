-- Each row of the table of calls answers the first refusal that applies. Assumes nothing.
pub mod Order
pub mod Shared
pub mod Own
use Prim.Native.Nat.{ℕ, zero, suc, ◌<◌}
use mathlib.Core.Path.{◌≡◌, refl, sym, ap, subst, ◌∙◌}
use mathlib.Core.Bool.{Bool, true, false, ◌&&◌, true≢false}
use mathlib.Core.Logic.{◌⊎◌, ⊎_elim}
use mathlib.Core.List.{List, [], ◌∷◌}
use native.Mathlib.Omega.{arith}
use lib.Dec.{leb, ltb}
use borrow.Author.Tests.{le-leb, lt-leb, ne_eqb}
use Rattle.words.specs.Words.{pick, or}
use Rattle.words.proofs.Zero.{both}
use Rattle.machine.specs.declared.Machine.{Machine}
use Rattle.ledger.specs.Ledger.{type_of, first_of, state_of, suspended_of}
use Rattle.ledger.specs.Names.{free, data_page, spare, stopped}
use Rattle.answer.specs.Refusals.{interrupted, faulted}
use Rattle.answer.specs.Answer.{Out, unless, call, owner}
use Rattle.building.specs.Calls.{init_addr_space_code, init_addr_space, init_thread_code, init_thread, init_table_code, init_table, alloc_spare_code, alloc_spare, map_secure_code, map_secure, map_insecure_code, map_insecure, finalise}
use Rattle.system.specs.Calls.{get_phys_pages, enter_code, enter_thread, resume_code, resume, stop, remove_code, remove, free_pages}
use Rattle.attesting.specs.Calls.{get_random, attest, verify}
use Rattle.enclave.specs.Calls.{spare_table_code, spare_table, map_data_code, map_data, unmap_data, exit, interrupt, fault}
use Rattle.records.specs.Records.{arg, form_code}
use Rattle.calls.specs.Table.{Row, no_row, the_row, calls, lookup}
use Rattle.batch.specs.Batch.{obey}
use Rattle.promises.specs.Terms.{code_of}
use Rattle.promises.specs.Firsts.{Tests, ends, done, systems, enclaves, FirstRefusals}
use Rattle.promises.proofs.Opened.{row_is}
use Rattle.promises.proofs.Firsts.Order.{Firsts, ◌then◌, test_eq, test_ne, test_le}
use Rattle.promises.proofs.Firsts.Shared.{system_first, enclave_first, as_first, pg_first, building_first, thread_first, own_first, legal_first, shaped_first, plain_first, index_first, addr_first, shut_first}
use Rattle.promises.proofs.Firsts.Own.{remove_first, load_first, store_first}

-- ---- a record: its form, then its call
-- Q says of x (a record, so that Q is read off its type)
record Told (Q : Tests) (x : ℕ) : Type 0 where
  told : Q x

-- a call is refused, or done with its outcome's code; a call without tests; one whose outcome is what is tested
call_code : (code : ℕ) (M L : List ℕ) (o : Out) → code_of (call code M L o) ≡ or code (code_of o)
unfolding unless or
call_code zero M L o = refl
call_code (suc c) M L o = refl

acts : {P : Tests → Tests} {code : ℕ} (M L : List ℕ) (o : Out) → Firsts P code → Told (P (ends (code_of o))) (code_of (call code M L o))
acts {code} M L o p = rw (call_code code M L o) (record { told = p.by (ends (code_of o)) (code_of o) refl })

ended : (c : ℕ) → Told (ends c) c
ended c = record { told = refl }

or_zero : (x : ℕ) → or x 0 ≡ x
unfolding or
or_zero zero = refl
or_zero (suc x) = refl

alone : {P : Tests → Tests} {x : ℕ} → Firsts P x → Told (P done) x
alone {P} {x} p = record { told = subst (P done) (or_zero x) (p.by done 0 refl) }

module _ (b : Machine) (M L W : List ℕ) where
  by_row : (i : ℕ) {r : Row} {P : Tests → Tests} {Q : Tests} → lookup i calls ≡ the_row r → Firsts P (form_code L r.number r.arguments W)
      → Told Q (code_of (r.acts b M L W)) → arg W 0 ≡ i → Told (P Q) (code_of (obey b M L W))
  by_row i {r} {P} {Q} f p q e =
      rw (ap code_of (row_is f b M L W e) ∙ call_code (form_code L r.number r.arguments W) M L (r.acts b M L W))
      (record { told = p.by Q (code_of (r.acts b M L W)) q.told })

  by_system : (i : ℕ) {r : Row} {Q : Tests} → lookup i calls ≡ the_row r → ltb r.number 32 ≡ true → Told Q (code_of (r.acts b M L W))
      → arg W 0 ≡ i → systems r.arguments L W Q (code_of (obey b M L W))
  by_system i {r} f s q e = (by_row i f (system_first L W r.number r.arguments s) q e).told

  by_enclave : (i : ℕ) {r : Row} {Q : Tests} → lookup i calls ≡ the_row r → ltb r.number 32 ≡ false → Told Q (code_of (r.acts b M L W))
      → arg W 0 ≡ i → enclaves r.arguments L W Q (code_of (obey b M L W))
  by_enclave i {r} f s q e = (by_row i f (enclave_first L W r.number r.arguments s) q e).told

-- ---- numbers that no row has
known : ℕ → Bool
known n = pick (leb n 13) (leb 1 n) (leb 32 n && leb n 42)

every_known : List Row → Bool
every_known [] = true
every_known (r ∷ rs) = known r.number && every_known rs

not_known : (n : ℕ) → (n < 1) ⊎ ((13 < n) × (n < 32)) ⊎ (42 < n) → known n ≡ false
unfolding known
not_known n =
    ⊎_elim (λ l. rw (le-leb n 13 (omega arith)) (lt-leb 1 n l))
    (⊎_elim (λ x. rw (lt-leb n 13 x.0) (rw (lt-leb 32 n x.1) refl))
    (λ l. rw (lt-leb n 13 (omega arith)) (rw (le-leb 32 n (omega arith)) (lt-leb n 42 l))))

no_row_has : (i : ℕ) (rs : List Row) → every_known rs ≡ true → known i ≡ false → lookup i rs ≡ no_row
unfolding lookup every_known
no_row_has i [] a u = refl
no_row_has i (r ∷ rs) a u =
    let x = both (known r.number) (every_known rs) a in
    rw (ne_eqb i r.number (λ e. true≢false (sym x.0 ∙ ap known (sym e) ∙ u))) (no_row_has i rs x.1 u)

all_known : every_known calls ≡ true
unfolding calls known every_known
all_known = refl

-- ---- the rows
pub first_refusals : FirstRefusals
unfolding obey calls lookup get_phys_pages init_addr_space_code init_addr_space init_thread_code init_thread init_table_code init_table alloc_spare_code alloc_spare map_secure_code map_secure map_insecure_code map_insecure finalise enter_code enter_thread resume_code resume stop remove_code remove free_pages get_random attest verify spare_table_code spare_table map_data_code map_data unmap_data exit interrupt fault
first_refusals =
    record {
      unknown = λ b M L W u. rw (no_row_has (arg W 0) calls all_known (not_known (arg W 0) u)) refl;
      get_phys_pages = λ b M L W. by_system b M L W 1 refl refl (ended 0);
      init_addr_space =
          λ b M L W.
          by_system b M L W 2 refl refl
          (acts M L _
          (test_le b.pages (arg W 1) 0 then test_le b.pages (arg W 2) 0 then test_ne (type_of L (arg W 1)) free 1
          then test_ne (type_of L (arg W 2)) free 1 then test_eq (arg W 1) (arg W 2) 1));
      init_thread =
          λ b M L W.
          by_system b M L W 3 refl refl
          (acts M L _ (building_first b L (arg W 1) then pg_first b L (arg W 2) then legal_first (arg W 3)));
      init_table =
          λ b M L W.
          by_system b M L W 4 refl refl
          (acts M L _ (building_first b L (arg W 1) then pg_first b L (arg W 2) then index_first b M (first_of L (arg W 1)) (arg W 3)));
      alloc_spare =
          λ b M L W.
          by_system b M L W 5 refl refl
          (acts M L _ (as_first b L (arg W 1) then test_eq (state_of L (arg W 1)) stopped 3 then pg_first b L (arg W 2)));
      map_secure =
          λ b M L W.
          by_system b M L W 6 refl refl
          (acts M L _
          (building_first b L (arg W 1) then pg_first b L (arg W 2) then shaped_first (arg W 3)
          then addr_first b M (first_of L (arg W 1)) (arg W 3) then shut_first b (arg W 4)));
      map_insecure =
          λ b M L W.
          by_system b M L W 7 refl refl
          (acts M L _
          (building_first b L (arg W 1)
          then plain_first (arg W 2) (addr_first b M (first_of L (arg W 1)) (arg W 2) then shut_first b (arg W 3))));
      finalise = λ b M L W. by_system b M L W 8 refl refl (acts M L _ (building_first b L (arg W 1)));
      enter_thread =
          λ b M L W. by_system b M L W 9 refl refl (acts M L _ (thread_first b L (arg W 1) then test_ne (suspended_of L (arg W 1)) 0 10));
      resume = λ b M L W. by_system b M L W 10 refl refl (acts M L _ (thread_first b L (arg W 1) then test_eq (suspended_of L (arg W 1)) 0 11));
      stop = λ b M L W. by_system b M L W 11 refl refl (acts M L _ (as_first b L (arg W 1)));
      remove =
          λ b M L W.
          by_system b M L W 12 refl refl
          (acts M L _ (test_le b.pages (arg W 1) 0 then test_eq (type_of L (arg W 1)) free 21 then remove_first L (arg W 1)));
      free_pages = λ b M L W. by_system b M L W 13 refl refl (ended 0);
      get_random = λ b M L W. by_enclave b M L W 32 refl refl (ended 0);
      attest = λ b M L W. by_enclave b M L W 33 refl refl (ended 0);
      verify = λ b M L W. by_enclave b M L W 34 refl refl (ended 0);
      spare_table =
          λ b M L W.
          by_enclave b M L W 35 refl refl
          (acts M L _ (own_first b L spare 15 (arg W 1) then index_first b M (first_of L (owner L)) (arg W 2)));
      map_data =
          λ b M L W.
          by_enclave b M L W 36 refl refl
          (acts M L _ (own_first b L spare 15 (arg W 1) then shaped_first (arg W 2) then addr_first b M (first_of L (owner L)) (arg W 2)));
      unmap_data = λ b M L W. by_enclave b M L W 37 refl refl (acts M L _ (own_first b L data_page 16 (arg W 1)));
      exit = λ b M L W. by_enclave b M L W 38 refl refl (ended 0);
      interrupt = λ b M L W. by_enclave b M L W 39 refl refl (ended interrupted);
      fault = λ b M L W. by_enclave b M L W 40 refl refl (ended faulted);
      load = λ b M L W. by_enclave b M L W 41 refl refl (alone (load_first b M L (arg W 1)));
      store = λ b M L W. by_enclave b M L W 42 refl refl (alone (store_first b M L (arg W 1) (arg W 2)));
    }
