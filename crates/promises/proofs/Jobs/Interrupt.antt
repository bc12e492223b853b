-- What call 39 is for: nobody runs, and the thread that ran is suspended with the registers that came. Assumes nothing.
use Prim.Native.Nat.{ℕ, ◌+◌}
use mathlib.Core.Path.{◌≡◌, refl, ap, ◌∙◌}
use mathlib.Core.Logic.{inl}
use mathlib.Core.List.{List}
use native.Mathlib.Omega.{arith}
use lib.ListN.{length, drop, length-take, length-drop}
use lib.Seq.{get_or-take, get_or-drop}
use Rattle.words.specs.Words.{record_words}
use Rattle.machine.specs.declared.Machine.{Machine}
use Rattle.ledger.specs.Names.{running_word, thread}
use Rattle.ledger.specs.Ledger.{header, type_of}
use Rattle.answer.specs.Answer.{running}
use Rattle.accept.specs.Accept.{Accepted}
use Rattle.enclave.specs.Calls.{top_four, interrupt}
use Rattle.records.specs.Records.{args}
use Rattle.calls.specs.Table.{calls, lookup}
use Rattle.batch.specs.Batch.{obey}
use Rattle.batch.proofs.Obeyed.{parts}
use Rattle.promises.specs.Jobs.{Interrupted, InterruptIsFor}
use Rattle.promises.proofs.Moves.{Suspending}
use Rattle.promises.proofs.Moved.Enclave.{suspending}
use Rattle.promises.proofs.Opened.{acted}

-- the effect, of a record that is long enough to hold what is saved; and the thread stays one
pub suspended : (b : Machine) (M L W : List ℕ) (t : ℕ) → Accepted b M L → length W ≡ record_words → header L running_word ≡ t + 1
    → obey b M L W ≡ interrupt M L (args W 1 17)
    → (type_of (obey b M L W).led t ≡ thread) × Interrupted W (obey b M L W).ans (obey b M L W).led t
unfolding interrupt
suspended b M L W t ok long runs e =
    let s : Suspending L (obey b M L W).led (args W 1 17) = rw e (suspending (args W 1 17) ok (omega (arith, runs))) in
    let it : running L ≡ t = omega (arith, runs) in
    let (asleep, saved, flags) = rw it at (s.saved (simp (length-take, length-drop) (omega arith))) in (
      rw it at (s.words 0 (inl (omega arith)) (omega arith) ∙ s.is_thread),
      record {
        nobody = s.nobody;
        answer = (parts e).2;
        asleep = asleep;
        saved = λ j l. saved j l ∙ get_or-take 17 (drop 1 W) j 0 (omega arith) ∙ get_or-drop 1 W j 0;
        flags = flags ∙ ap top_four (get_or-take 17 (drop 1 W) 16 0 (omega arith) ∙ get_or-drop 1 W 16 0);
      },
    )

pub interrupt_is_for : InterruptIsFor
unfolding lookup calls
interrupt_is_for b M L W t ok long runs asks z =
    (suspended b M L W t ok long runs (acted refl b M L W refl (λ n. omega arith) asks z)).1
