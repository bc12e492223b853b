-- Acceptance is decided by a test that computes, `keeps`; so a service that satisfies `Batched` can be written down. Assumes nothing.
use Prim.Native.Nat.{ℕ, ◌+◌, ◌*◌, ◌/◌, ◌%◌}
use mathlib.Core.Path.{◌≡◌, refl}
use mathlib.Core.Bool.{Bool, true, false}
use mathlib.Core.List.{List}
use lib.ListN.{length}
use Rattle.words.specs.Words.{Says, record_words}
use Rattle.machine.specs.declared.Machine.{Machine}
use Rattle.machine.specs.Machine.{header_words, Lent}
use Rattle.ledger.specs.Ledger.{header, rec}
use Rattle.memory.specs.Memory.{frame}
use Rattle.answer.specs.Refusals.{ill_fitting}
use Rattle.answer.specs.Answer.{Out}
use Rattle.accept.specs.Accept.{Rules, Accepted}
use Rattle.accept.proofs.Parts.{all_pages, all_counts, all_rules}
use Rattle.batch.specs.Batch.{batch}
use Rattle.batch.specs.Service.{most_records, BatchFits, Batched}
use Rattle.promises.specs.Cheats.{Left, SomebodyServes}
use Rattle.promises.proofs.Decided.Tests.{Decided, as_if, equal, at_most, and_then, ◌and◌, Mark}
use Rattle.promises.proofs.Decided.Pages.{all_marks}
use Rattle.promises.proofs.Decided.Parts.{fits, lent, header_ok, counts, pages}
use Rattle.promises.proofs.Decided.Changed.{Known}
pub mod Tests
pub mod Pages
pub mod Parts
pub mod Changed

-- the rules, where the words of the pages that are not zero are ps
abbrev pub rules : (b : Machine) (M L : List ℕ) → Lent b M L → (ps : List (List Mark)) → ps ≡ all_marks b M
    → Decided (Rules b (header L) (rec L) (frame M))
rules b M L ok ps e =
    as_if (λ (h, (c, p)). all_rules b (header L) (rec L) (frame M) p h c)
    (λ x. (x.header, (all_counts b (header L) (rec L) (frame M) x, all_pages b (header L) (rec L) (frame M) x)))
    (header_ok b L and counts b.pages L and pages b M L ok ps e)

abbrev pub decided : (b : Machine) (M L : List ℕ) → Decided (Accepted b M L)
decided b M L =
    as_if (λ (l, r). record { lent = l; rules = r }) (λ x. (x.lent, x.rules))
    (and_then (lent b M L) (λ ok. rules b M L ok (all_marks b M) refl))

-- the same where the pages are known already
abbrev pub by_pages : (b : Machine) (M L : List ℕ) (ps : List (List Mark)) → Known b M ps → Decided (Accepted b M L)
by_pages b M L ps known =
    as_if (λ (f, (l, r)). record { lent = record { fits = f; memory = known.size; ledger = l }; rules = r })
    (λ x. (x.lent.fits, (x.lent.ledger, x.rules)))
    (and_then (fits b)
    (λ f.
    and_then (equal (length L) (header_words + record_words * b.pages))
    (λ l. rules b M L (record { fits = f; memory = known.size; ledger = l }) ps known.pages)))

unfoldable pub keeps : Machine → List ℕ → List ℕ → Bool
keeps b M L = (decided b M L).test

pub decides : (b : Machine) (M L : List ℕ) → Says (keeps b M L) (Accepted b M L)
unfolding keeps
decides b M L = (decided b M L).says

-- ---- a batch service: it asks whether all fits, and does the batch or answers 18
batch_fits : (b : Machine) (M L W A : List ℕ) → Decided (BatchFits b M L W A)
batch_fits b M L W A =
    as_if (λ (w, (m, (a, x))). record { whole = w; most = m; answers = a; accepted = x }) (λ x. (x.whole, (x.most, (x.answers, x.accepted))))
    (equal (length W % record_words) 0 and at_most (length W) (record_words * most_records) and equal (length A) (length W) and decided b M L)

abbrev done : Out → Left
done o = record { says = 0; mem = o.mem; led = o.led; answers = o.ans }

abbrev answered : Bool → Machine → List ℕ → List ℕ → List ℕ → List ℕ → Left
answered true b M L W A = done (batch b (length W / record_words) M L W)
answered false b M L W A = record { says = ill_fitting; mem = M; led = L; answers = A }

serves : (b : Machine) (M L W A : List ℕ) (t : Bool) → Says t (BatchFits b M L W A)
    → Batched b M L W A (answered t b M L W A).says (answered t b M L W A).mem (answered t b M L W A).led (answered t b M L W A).answers
serves b M L W A true fits = Batched.done fits refl refl
serves b M L W A false no-fit = Batched.not_fitting no-fit refl refl refl refl

pub somebody_serves : SomebodyServes
somebody_serves = (
  λ b M L W A. answered (batch_fits b M L W A).test b M L W A,
  λ b M L W A. let x = batch_fits b M L W A in serves b M L W A x.test x.says,
)
