-- A thread's entry is legal, and is the one with which it was made. Assumes nothing.
pub mod Replaced
pub mod Lasting
use Prim.Native.Nat.{ℕ}
use mathlib.Core.Path.{◌≡◌, refl, ap, ◌∙◌}
use mathlib.Core.Bool.{Bool, true, false}
use mathlib.Core.Logic.{◌⊎◌, ⊎_elim}
use mathlib.Core.List.{List}
use native.Mathlib.Omega.{arith}
use Rattle.words.specs.Words.{Says}
use Rattle.words.proofs.Says.{yes_holds}
use Rattle.machine.specs.declared.Machine.{Machine}
use Rattle.mapping.specs.Entry.{legal_entry}
use Rattle.ledger.specs.Ledger.{rec}
use Rattle.answer.specs.Refusals.{ill_fitting, bad_entry}
use Rattle.accept.specs.Accept.{Accepted}
use Rattle.system.specs.Calls.{enter_thread}
use Rattle.system.proofs.Laws.{passes_enter}
use Rattle.records.specs.Records.{arg}
use Rattle.calls.specs.Table.{calls, lookup}
use Rattle.batch.specs.Batch.{obey}
use Rattle.batch.specs.Service.{Batched}
use Rattle.promises.specs.Terms.{code_of, Did}
use Rattle.promises.specs.Firsts.{◌gives◌else◌, done, Not, PG, Legal}
use Rattle.promises.specs.Entries.{IsThread, IsFree, AsksThread, start_of, EntriesAreLegal}
use Rattle.promises.proofs.Kept.{every_record_keeps, history_keeps}
use Rattle.promises.proofs.Opened.{effect}
use Rattle.promises.proofs.Firsts.{first_refusals}
use Rattle.promises.proofs.Firsts.Shared.{legal_says}
use Rattle.promises.proofs.Jobs.Made.{init_thread_is_for}
use Rattle.promises.proofs.Jobs.Plain.{enter_is_for}
use Rattle.promises.proofs.Entries.Replaced.{replaced}
use Rattle.promises.proofs.Entries.Lasting.{lasting}

every : (b : Machine) (M L : List ℕ) (t : ℕ) → Accepted b M L → IsThread b L t → Legal (rec L t 2)
every b M L t ok is = yes_holds _ (legal_says (rec L t 2)) ((ok.rules.pages t is.below).layout.is_thread is.type).entry

by_test : (entry : ℕ) → Legal entry → legal_entry entry ≡ true
by_test entry x = go (legal_entry entry) (legal_says entry)
  where
    go : (r : Bool) → Says r (Legal entry) → r ≡ true
    go true s = refl
    go false n = absurd (n x)

-- ---- InitThread: past the tests before those of the page and of the entry
past : {T A B : Type 0} → (T → ⊥) → (T × A) ⊎ ((T → ⊥) × B) → B
past n = ⊎_elim (λ x. absurd (n x.0)) (λ x. x.1)

stopped_by : {T A B : Type 0} → T → (T × A) ⊎ ((T → ⊥) × B) → A
stopped_by t = ⊎_elim (λ x. x.1) (λ x. absurd (x.0 t))

asked : (b : Machine) (M L W : List ℕ) → AsksThread b L W → PG b L (arg W 2) (Not (Legal (arg W 3)) gives bad_entry else done) (code_of (obey b M L W))
asked b M L W x =
    past (λ n. n x.state) (past (λ n. n x.is_space) (past (λ l. omega arith)
    (past (λ n. n x.nobody) (past x.no_more_words (first_refusals.init_thread b M L W x.asks)))))

free_asked : (b : Machine) (M L W : List ℕ) → AsksThread b L W → IsFree b L (arg W 2)
    → (Not (Legal (arg W 3)) gives bad_entry else done) (code_of (obey b M L W))
free_asked b M L W x is = past (λ n. n is.type) (past (λ l. omega (arith, is.below)) (asked b M L W x))

-- ---- Enter: r15 is the thread's entry
starts : (b : Machine) (M L W : List ℕ) → Accepted b M L → Did b M L W 9 → start_of (obey b M L W).ans ≡ rec L (arg W 1) 2
starts b M L W ok did = ap start_of (enter_is_for b M L W ok did).registers

enters : (b : Machine) (M L W : List ℕ) → Did b M L W 9 → IsThread b L (arg W 1)
unfolding lookup calls enter_thread
enters b M L W did = let (l, t, _, _) = passes_enter b L (arg W 1) (effect refl did refl).0 in record { below = l; type = t }

-- ---- a batch on what acceptance refuses
refused : (b : Machine) (M L W A M' L' A' : List ℕ) (r : ℕ) → (Accepted b M L → ⊥) → Batched b M L W A r M' L' A'
    → (r ≡ ill_fitting) × (M' ≡ M) × (L' ≡ L) × (A' ≡ A)
refused b M L W A M' L' A' r fails (Batched.done fits e o) = absurd (fails fits.accepted)
refused b M L W A M' L' A' r fails (Batched.not_fitting n e m l a) = (e, m, l, a)

pub entries_are_legal : EntriesAreLegal
entries_are_legal =
    record {
      every_thread = every;
      any_legal = λ b M L t entry ok is legal. replaced ok is entry (by_test entry legal);
      eighteen = λ b M L W A M' L' A' r t is bad. refused b M L W A M' L' A' r (λ ok. bad (every b M L t ok is));
      no_page = λ b M L W x out. stopped_by out (asked b M L W x);
      page_in_use = λ b M L W x l used. stopped_by used (past (λ u. omega arith) (asked b M L W x));
      told = λ b M L W x is bad. stopped_by bad (free_asked b M L W x is);
      done = λ b M L W x is legal. past (λ n. n legal) (free_asked b M L W x is);
      entered = λ b M L W ok did. rw (starts b M L W ok did) (every b M L (arg W 1) ok (enters b M L W did));
      as_made = λ b M L W M' L' X ok did h u did' e.
          let started = every_record_keeps b M L W ok in
          let new = init_thread_is_for b M L W ok did in
          starts b M' L' X (history_keeps b (obey b M L W).mem (obey b M L W).led M' L' started h) did'
          ∙ ap (λ (t : ℕ). rec L' t 2) e
          ∙ lasting b (obey b M L W).mem (obey b M L W).led M' L' (arg W 2) started new.is_thread.type h u 2 (omega arith)
          ∙ new.enters;
    }
