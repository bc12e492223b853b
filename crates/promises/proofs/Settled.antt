-- No second outcome satisfies a service's relation: 18 comes exactly when it is said to, and a batch is its records in order. Assumes nothing.
use Prim.Native.Nat.{ℕ, zero, suc, ◌+◌, ◌*◌, ◌/◌, ◌≤◌, ◌<◌}
use mathlib.Core.Path.{◌≡◌, refl, sym, ap, subst, ◌∙◌}
use mathlib.Core.Bool.{true, false}
use mathlib.Core.Logic.{⊎_elim, inl, inr}
use mathlib.Core.List.{List, ◌++◌, append-nil}
use native.Mathlib.Omega.{arith}
use lib.ListN.{length, get_or, drop, length-append, length-drop, get_or-append}
use lib.Seq.{take_all, take-append-le, drop-append-le, drop_at}
use Rattle.words.specs.Words.{record_words, padded}
use Rattle.words.proofs.Cases.{lt_or_ge}
use Rattle.machine.specs.declared.Machine.{Machine}
use Rattle.machine.specs.Machine.{Lent}
use Rattle.ledger.proofs.Views.{length-padded}
use Rattle.answer.specs.Answer.{Out}
use Rattle.batch.specs.Batch.{obey, after, batch}
use Rattle.batch.specs.Service.{Batched}
use Rattle.batch.proofs.Cut.{cut}
use Rattle.batch.proofs.Obeyed.{parts}
use Rattle.boot.specs.Boot.{Booted}
use Rattle.boot.proofs.Fresh.{fresh_accepted}
use Rattle.promises.specs.Settled.{BootIsSettled, AcceptanceIsSettled, BatchIsSettled, Given, Asked, EighteenExactlyWhen, record_at, state_at, InOrder, BatchIsItsRecords, CutInTwoIsTheSame, FreshGetsAYes}

pub boot_is_settled : BootIsSettled
boot_is_settled b key M L r r' M₁ L₁ M₂ L₂ (Booted.done f e m l) (Booted.done f' e' m' l') = (e ∙ sym e', m ∙ sym m', l ∙ sym l')
boot_is_settled b key M L r r' M₁ L₁ M₂ L₂ (Booted.done f e m l) (Booted.not_fitting n e' m' l') = absurd (n f)
boot_is_settled b key M L r r' M₁ L₁ M₂ L₂ (Booted.not_fitting n e m l) (Booted.done f e' m' l') = absurd (n f)
boot_is_settled b key M L r r' M₁ L₁ M₂ L₂ (Booted.not_fitting n e m l) (Booted.not_fitting n' e' m' l') = (e ∙ sym e', m ∙ sym m', l ∙ sym l')

pub acceptance_is_settled : AcceptanceIsSettled
acceptance_is_settled b M L true true x y = refl
acceptance_is_settled b M L true false x y = absurd (y x)
acceptance_is_settled b M L false true x y = absurd (x y)
acceptance_is_settled b M L false false x y = refl

pub batch_is_settled : BatchIsSettled
batch_is_settled b M L W A r r' M₁ L₁ A₁ M₂ L₂ A₂ (Batched.done f e o) (Batched.done f' e' o') =
    let (m, l, a) = parts (o ∙ sym o') in
    (e ∙ sym e', m, l, a)
batch_is_settled b M L W A r r' M₁ L₁ A₁ M₂ L₂ A₂ (Batched.done f e o) (Batched.not_fitting n e' m' l' a') = absurd (n f)
batch_is_settled b M L W A r r' M₁ L₁ A₁ M₂ L₂ A₂ (Batched.not_fitting n e m l a) (Batched.done f e' o') = absurd (n f)
batch_is_settled b M L W A r r' M₁ L₁ A₁ M₂ L₂ A₂ (Batched.not_fitting n e m l a) (Batched.not_fitting n' e' m' l' a') =
    (e ∙ sym e', m ∙ sym m', l ∙ sym l', a ∙ sym a')

-- ---- the document's numbers are those of the relation
pub given : {b : Machine} {M L : List ℕ} → Lent b M L → Given b M L
given {b} x =
    let f = x.fits in
    record {
      frames = (f.frames_low, f.frames_high);
      pages = (f.pages_low, f.pages_high);
      monitors = f.monitors_low;
      below = (f.secure_below, f.monitor_below);
      apart = λ g s m. ⊎_elim (λ l. omega (arith, s.to, m.from)) (λ l. omega (arith, s.from, m.to)) f.apart;
      memory = x.memory;
      ledger = x.ledger;
    }

-- of two ranges that share no frame one ends before the other: else they share the later of their first frames
pub lent : {b : Machine} {M L : List ℕ} → Given b M L → Lent b M L
lent {b} x =
    record {
      fits = record {
        frames_low = x.frames.0;
        frames_high = x.frames.1;
        pages_low = x.pages.0;
        pages_high = x.pages.1;
        monitors_low = x.monitors;
        secure_below = x.below.0;
        monitor_below = x.below.1;
        apart = ⊎_elim (λ l. ⊎_elim (λ l'. absurd (shared l l')) inr (lt_or_ge b.secure (b.monitor + b.monitors))) inl
            (lt_or_ge b.monitor (b.secure + b.pages));
      };
      memory = x.memory;
      ledger = x.ledger;
    }
  where
    shared : b.monitor < b.secure + b.pages → b.secure < b.monitor + b.monitors → ⊥
    shared l l' =
        ⊎_elim
        (λ h. x.apart b.monitor (record { from = omega arith; to = l }) (record { from = omega arith; to = omega (arith, x.monitors) }))
        (λ h. x.apart b.secure (record { from = omega arith; to = omega (arith, x.pages.0) }) (record { from = h; to = l' }))
        (lt_or_ge b.secure b.monitor)

pub eighteen_exactly_when : EighteenExactlyWhen
eighteen_exactly_when = record { boot_done = boot_done; boot_18 = boot_18; batch_done = batch_done; batch_18 = batch_18 }
  where
    boot_done : (b : Machine) (key M L M' L' : List ℕ) (r : ℕ) → Booted b key M L r M' L' → Given b M L → length key ≡ 8 → r ≡ 0
    boot_done b key M L M' L' r (Booted.done f e m l) g k = e
    boot_done b key M L M' L' r (Booted.not_fitting n e m l) g k = absurd (n (record { lent = lent g; has_key_words = k }))

    boot_18 : (b : Machine) (key M L M' L' : List ℕ) (r : ℕ) → Booted b key M L r M' L' → (Given b M L × (length key ≡ 8) → ⊥) → r ≡ 18
    boot_18 b key M L M' L' r (Booted.done f e m l) n = absurd (n (given f.lent, f.has_key_words))
    boot_18 b key M L M' L' r (Booted.not_fitting _ e m l) n = e

    batch_done : (b : Machine) (M L W A M' L' A' : List ℕ) (r : ℕ) → Batched b M L W A r M' L' A' → Asked b M L W A → r ≡ 0
    batch_done b M L W A M' L' A' r (Batched.done f e o) q = e
    batch_done b M L W A M' L' A' r (Batched.not_fitting n e m l a) q =
        absurd (n (record { whole = q.whole; most = q.most; answers = q.answers; accepted = q.accepted }))

    batch_18 : (b : Machine) (M L W A M' L' A' : List ℕ) (r : ℕ) → Batched b M L W A r M' L' A' → (Asked b M L W A → ⊥) → r ≡ 18
    batch_18 b M L W A M' L' A' r (Batched.done f e o) n =
        absurd
        (n (record { given = given f.accepted.lent; whole = f.whole; most = f.most; answers = f.answers; accepted = f.accepted }))
    batch_18 b M L W A M' L' A' r (Batched.not_fitting _ e m l a) n = e

-- ---- a batch is its records in order: one record more comes after the others' answers, in the state that they leave
early : (X Y : List ℕ) (j : ℕ) → record_words * suc j ≤ length X → record_at (X ++ Y) j ≡ record_at X j
unfolding record_at
early X Y j l =
    rw (drop-append-le (record_words * j) X Y (omega arith))
    (take-append-le record_words (drop (record_words * j) X) Y (rw (length-drop (record_words * j) X) (omega arith)))

last : (X Y : List ℕ) (k : ℕ) → length X ≡ record_words * k → length Y ≡ record_words → record_at (X ++ Y) k ≡ Y
unfolding record_at
last X Y k l m = rw (drop_at X Y (record_words * k) l) (take_all record_words Y (omega arith))

one_more : {b : Machine} {M L W M₁ L₁ A₁ : List ℕ} {k : ℕ} (o : Out) → o ≡ obey b M₁ L₁ (record_at W k)
    → InOrder b M L W M₁ L₁ A₁ k → InOrder b M L W o.mem o.led (A₁ ++ padded o.ans) (suc k)
unfolding state_at
one_more {b} {M} {L} {W} {M₁} {L₁} {A₁} {k} o e x =
    let now : o ≡ state_at b M L W (suc k) = e ∙ rw (x.memory, x.ledger) refl in
    let (memory, ledger, answer) = parts now in
    let P = padded o.ans in
    record {
      size = length-append A₁ P ∙ omega (arith, x.size, length-padded o.ans);
      each = λ j l.
          ⊎_elim (λ h. early A₁ P j (omega (arith, x.size)) ∙ x.each j h)
          (λ h. let at : j ≡ k = omega arith in rw at (last A₁ P k x.size (length-padded o.ans) ∙ ap padded answer)) (lt_or_ge j k);
      memory = memory;
      ledger = ledger;
    }

in_order : (b : Machine) (k : ℕ) (M L W : List ℕ) → InOrder b M L W (batch b k M L W).mem (batch b k M L W).led (batch b k M L W).ans k
unfolding batch after state_at record_at
in_order b zero M L W = record { size = refl; each = λ j l. absurd (omega arith); memory = refl; ledger = refl }
in_order b (suc k) M L W =
    let x = batch b k M L W in
    let o = obey b x.mem x.led (record_at W k) in
    let e : batch b (suc k) M L W ≡ record { ans = x.ans ++ padded o.ans; mem = o.mem; led = o.led }
    = ap (λ (i : ℕ). batch b i M L W) {x = suc k} {y = k + 1} (omega arith)
    ∙ cut b k 1 M L W
    ∙ ap (λ (l : List ℕ). record { ans = x.ans ++ l; mem = o.mem; led = o.led }) (append-nil (padded o.ans)) in
    subst (λ (y : Out). InOrder b M L W y.mem y.led y.ans (suc k)) (sym e) (one_more o refl (in_order b k M L W))

-- of j + k records the first j are answered as they are alone
pub answered_first : (b : Machine) (j k : ℕ) (M L W : List ℕ) (i : ℕ) → i < record_words * j
    → get_or (batch b j M L W).ans i 0 ≡ get_or (batch b (j + k) M L W).ans i 0
unfolding after
answered_first b j k M L W i l =
    let x = batch b j M L W in
    let y = batch b k x.mem x.led (drop (record_words * j) W) in
    sym (ap (λ (o : Out). get_or o.ans i 0) (cut b j k M L W)
    ∙ get_or-append x.ans y.ans 0 i (rw (in_order b j M L W).size l))

pub batch_is_its_records : BatchIsItsRecords
batch_is_its_records b M L W A M' L' A' k (Batched.done f e o) l =
    let n : length W / record_words ≡ k = omega arith in
    let (memory, ledger, answers) = parts (rw n at o) in
    rw (memory, ledger, answers) (in_order b k M L W)
batch_is_its_records b M L W A M' L' A' k (Batched.not_fitting n e m l' a) l = absurd (omega arith)

pub cut_in_two_is_the_same : CutInTwoIsTheSame
cut_in_two_is_the_same = cut

pub fresh_gets_a_yes : FreshGetsAYes
fresh_gets_a_yes b key M L true f s = refl
fresh_gets_a_yes b key M L false f s = absurd (s (fresh_accepted b key M L f))
