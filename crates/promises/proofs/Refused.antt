-- A refused call changes nothing beyond its answer record. Assumes nothing.
use Prim.Native.Nat.{ℕ}
use mathlib.Core.Path.{◌≡◌, refl, sym, ◌∙◌}
use mathlib.Core.Bool.{Bool, true, false}
use mathlib.Core.Logic.{◌⊎◌, inl, inr, ⊎_elim}
use mathlib.Core.List.{List, [], ◌∷◌}
use native.Mathlib.Omega.{arith}
use lib.Dec.{leb, eqb}
use lib.ListN.{take, drop_of_length-le}
use Rattle.words.specs.Words.{pick, record_words, padded}
use Rattle.machine.specs.declared.Machine.{Machine}
use Rattle.answer.specs.Refusals.{ill_fitting, interrupted, faulted}
use Rattle.answer.specs.Answer.{Out, refused, done, call}
use Rattle.answer.proofs.Laws.{by_code}
use Rattle.building.specs.Calls.{init_addr_space, init_thread, init_table, alloc_spare, map_secure, map_insecure, finalise}
use Rattle.system.specs.Calls.{get_phys_pages, enter_thread, resume, stop, remove, free_pages}
use Rattle.attesting.specs.Calls.{get_random, attest, verify}
use Rattle.enclave.specs.Calls.{spare_table, map_data, unmap_data, exit, interrupt, fault}
use Rattle.enclave.proofs.Laws.{by_load, by_store}
use Rattle.records.specs.Records.{arg}
use Rattle.calls.specs.Table.{calls}
use Rattle.batch.specs.Batch.{obey, batch}
use Rattle.batch.specs.Service.{Batched}
use Rattle.batch.proofs.Obeyed.{parts, ◌and◌, by_rows_alone}
use Rattle.boot.specs.Boot.{Booted}
use Rattle.promises.specs.Terms.{code_of, alone}
use Rattle.promises.specs.Refused.{Refusal, Unmoved, RefusedMovesNothing, ListCarriesOn, OutcomesStandAlone, EighteenMovesNothing, EmptyMovesNothing}

-- the calls that answer no value, as a test, which computes at a row's number
abbrev pub silent : ℕ → Bool
silent i =
    pick (leb i 1) false
    (pick (leb i 8) true (pick (leb i 10) false (pick (leb i 12) true (pick (leb i 34) false (pick (leb i 37) true (eqb i 42))))))

-- how a record can end: refused, done, by one of those calls without a value, or as an outcome
pub data Told (M L W : List ℕ) (o : Out) : Type 0 where
  refuses : (c : ℕ) → o ≡ refused c M L → Told M L W o
  does : code_of o ≡ 0 → (o.ans ≡ 0 ∷ []) ⊎ (silent (arg W 0) ≡ false) → Told M L W o
  ends : (c : ℕ) → o.ans ≡ c ∷ [] → (c ≡ interrupted) ⊎ (c ≡ faulted) → Told M L W o

pub told : (b : Machine) (M L W : List ℕ) → Told M L W (obey b M L W)
unfolding calls get_phys_pages init_addr_space init_thread init_table alloc_spare map_secure map_insecure finalise enter_thread resume stop remove free_pages get_random attest verify spare_table map_data unmap_data exit interrupt fault
told b M L W =
    by_rows_alone b M L W (Told M L W) (λ c _. refuses c refl)
    ((λ e _. does refl (inr (rw e refl)))
    and (λ _ _. bare _ _ _)
    and (λ _ _. bare _ _ _)
    and (λ _ _. bare _ _ _)
    and (λ _ _. bare _ _ _)
    and (λ _ _. bare _ _ _)
    and (λ _ _. bare _ _ _)
    and (λ _ _. bare _ _ _)
    and (λ e _. asked _ _ (does refl (inr (rw e refl))))
    and (λ e _. asked _ _ (does refl (inr (rw e refl))))
    and (λ _ _. bare _ _ _)
    and (λ _ _. bare _ _ _)
    and (λ e _. does refl (inr (rw e refl)))
    and (λ e _. does refl (inr (rw e refl)))
    and (λ e _. does refl (inr (rw e refl)))
    and (λ e _. does refl (inr (rw e refl)))
    and (λ _ _. bare _ _ _)
    and (λ _ _. bare _ _ _)
    and (λ _ _. bare _ _ _)
    and (λ e _. does refl (inr (rw e refl)))
    and (λ _ _. ends interrupted refl (inl refl))
    and (λ _ _. ends faulted refl (inr refl))
    and (λ e _. by_load b M L (arg W 1) (Told M L W) (λ _. ends faulted refl (inr refl)) (λ v _. does refl (inr (rw e refl))))
    and (λ _ _. by_store b M L (arg W 1) (arg W 2) (Told M L W) (λ _. ends faulted refl (inr refl)) (λ v _. does refl (inl refl)))
    and tt)
  where
    asked : (code : ℕ) (o : Out) → Told M L W o → Told M L W (call code M L o)
    asked code o t = by_code M L (Told M L W) (λ c _. refuses c refl) code o (λ _. t)

    bare : (code : ℕ) (M' L' : List ℕ) → Told M L W (call code M L (done M' L'))
    bare code M' L' = asked code (done M' L') (does refl (inl refl))

padded_alone : (c : ℕ) → padded (c ∷ []) ≡ alone c
unfolding padded
padded_alone c = refl

unmoved : (M L W : List ℕ) (o : Out) → Told M L W o → Refusal (code_of o) → Unmoved M L o
unmoved M L W o (refuses c e) r = rw e (record { memory = refl; ledger = refl; answer = padded_alone c })
unmoved M L W o (does e _) r = absurd (r.not_done e)
unmoved M L W o (ends c e t) r =
    let h : code_of o ≡ c = rw e refl in
    absurd (⊎_elim (λ x. r.not_interrupted (h ∙ x)) (λ x. r.not_faulted (h ∙ x)) t)

pub refused_moves_nothing : RefusedMovesNothing
refused_moves_nothing b M L W = unmoved M L W (obey b M L W) (told b M L W)

pub list_carries_on : ListCarriesOn
unfolding batch
list_carries_on b k M L W r =
    let o = obey b M L (take record_words W) in
    let u = refused_moves_nothing b M L (take record_words W) r in
    cc (u.memory, u.ledger, u.answer)

pub outcomes_stand_alone : OutcomesStandAlone
outcomes_stand_alone b M L W = go (obey b M L W) (told b M L W)
  where
    go : (o : Out) → Told M L W o → (code_of o ≡ interrupted) ⊎ (code_of o ≡ faulted) → padded o.ans ≡ alone (code_of o)
    go o (refuses c e) t = rw e (padded_alone c)
    go o (does e _) t = absurd (⊎_elim (λ x. omega arith) (λ x. omega arith) t)
    go o (ends c e _) t = rw e (padded_alone c)

pub eighteen_moves_nothing : EighteenMovesNothing
eighteen_moves_nothing = (boot, list)
  where
    boot : (b : Machine) (key M L M' L' : List ℕ) → Booted b key M L ill_fitting M' L' → (M' ≡ M) × (L' ≡ L)
    boot b key M L M' L' (Booted.done f r m l) = absurd (omega arith)
    boot b key M L M' L' (Booted.not_fitting f r m l) = (m, l)

    list : (b : Machine) (M L W A M' L' A' : List ℕ) → Batched b M L W A ill_fitting M' L' A' → (M' ≡ M) × (L' ≡ L) × (A' ≡ A)
    list b M L W A M' L' A' (Batched.done f r e) = absurd (omega arith)
    list b M L W A M' L' A' (Batched.not_fitting f r m l a) = (m, l, a)

pub empty_moves_nothing : EmptyMovesNothing
unfolding batch
empty_moves_nothing b M L A M' L' A' r (Batched.done f z e) =
    let (memory, ledger, answers) = parts e in
    (memory, ledger, answers ∙ sym (drop_of_length-le A {i = 0} (omega (arith, f.answers))))
empty_moves_nothing b M L A M' L' A' r (Batched.not_fitting f z m l a) = (m, l, a)
