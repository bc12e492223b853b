-- What calls 9 to 12 do to the ledger where no check refuses. Assumes nothing.
use Prim.Native.Nat.{ℕ, ◌+◌}
use mathlib.Core.Path.{◌≡◌, refl, ◌∙◌}
use mathlib.Core.List.{List}
use mathlib.Core.Logic.{⊎_elim}
use native.Mathlib.Omega.{arith}
use lib.ListN.{replicate}
use Rattle.words.proofs.Cases.{same_or}
use Rattle.machine.specs.declared.Machine.{Machine}
use Rattle.ledger.specs.Names.{space, stopped}
use Rattle.ledger.specs.Ledger.{rec, put, puts, vacate, run}
use Rattle.ledger.proofs.Views.{put_same, put_word, puts_word, run_same, run_rec}
use Rattle.ledger.proofs.Effects.{lose_other, vacate_same, vacate_other}
use Rattle.answer.specs.Answer.{as_code}
use Rattle.answer.proofs.Laws.{passes_as}
use Rattle.accept.specs.Accept.{Accepted}
use Rattle.system.specs.Calls.{enter_code, resume_code, remove_code, left}
use Rattle.system.proofs.Laws.{passes_enter, passes_resume, passes_remove}
use Rattle.system.proofs.Steps.{left_space, left_other}
use Rattle.kept.proofs.Facts.Bridge.{bit_in, record_in, owner_space}
use Rattle.kept.proofs.Facts.Wrote.{Wrote, wrote_put, wrote_puts, wrote_lose}
use Rattle.promises.proofs.Moves.{Entering, Resuming, Stopping, Removing}
use Rattle.promises.proofs.Moved.Steps.{calm_wrote, calm_vacate, calm_then, head_run, head_then}

-- ---- 9 and 10: a thread runs
pub entering : {b : Machine} {M L : List ℕ} (t : ℕ) → Accepted b M L → enter_code b L t ≡ 0 → Entering L (run L (t + 1)) t
entering {b} {M} {L} t ok z =
    let (tl, _, _, _) = passes_enter b L t z in
    record {
      head = head_run L (t + 1);
      runs = run_same L (t + 1) (omega (arith, record_in ok t tl));
      all = λ q k l. run_rec L (t + 1) q k;
    }

abbrev zeros : List ℕ
zeros = replicate 18 0

pub resuming : {b : Machine} {M L : List ℕ} (t : ℕ) → Accepted b M L → resume_code b L t ≡ 0 → Resuming L (run (puts L t 3 zeros) (t + 1)) t
resuming {b} {M} {L} t ok z =
    let (tl, type, _, _) = passes_resume b L t z in
    let K = puts L t 3 zeros in
    let x : Wrote L K t = wrote_puts L t 3 zeros (omega arith) in
    record {
      head = head_then (calm_wrote x).head (head_run K (t + 1));
      runs = run_same K (t + 1) (omega (arith, x.size, record_in ok t tl));
      is_thread = type;
      words = λ j o l. run_rec K (t + 1) t j ∙ puts_word L t 3 zeros j o;
      others = λ q n k l. run_rec K (t + 1) q k ∙ x.others q n k l;
    }

-- ---- 11: the space is stopped
pub stopping : {b : Machine} {M L : List ℕ} (a : ℕ) → Accepted b M L → as_code b L a ≡ 0 → Stopping L (put L a 3 stopped) a
stopping {b} {M} {L} a ok z =
    let (al, type) = passes_as b L a z in
    let x = wrote_put L a 3 stopped (omega arith) in
    record {
      calm = calm_wrote x;
      is_space = type;
      now = put_same L a 3 stopped (omega (arith, record_in ok a al));
      words = λ j n l. put_word L a 3 stopped j n;
      others = x.others;
    }

-- ---- 12: the page leaves its owner's count, where it is no space, and is free
module _ (L : List ℕ) (p : ℕ) where
  abbrev a : ℕ
  a = rec L p 1

  left_wrote : Wrote L (left L p) a
  left_wrote =
      ⊎_elim (λ e. rw (← left_space L p refl e) (record { size = refl; head = λ k l. refl; others = λ q n k l. refl }))
      (λ n. rw (← left_other L p refl n refl refl) (wrote_lose L a)) (same_or (rec L p 0) space)

  left_word : (j : ℕ) → (j ≡ 4 → ⊥) → rec (left L p) a j ≡ rec L a j
  left_word j n =
      ⊎_elim (λ e. rw (← left_space L p refl e) refl)
      (λ m. rw (← left_other L p refl m refl refl) (lose_other L a a j (λ e. n (omega arith)))) (same_or (rec L p 0) space)

pub removing : {b : Machine} {M L : List ℕ} (p : ℕ) → Accepted b M L → remove_code b L p ≡ 0 → Removing b L (vacate (left L p) p) p
removing {b} {M} {L} p ok z =
    let (pl, used, _) = passes_remove b L p z in
    let K = left L p in
    let x = left_wrote L p in
    let pin = bit_in ok p pl in
    record {
      calm = calm_then (calm_wrote x) (calm_vacate K p pin);
      p_below = pl;
      used = used;
      new = vacate_same K p pin (rw x.size (record_in ok p pl));
      owner_space = (owner_space ok p pl used).type;
      words = λ n j m l. vacate_other K p pin (rec L p 1) j n l ∙ left_word L p j m;
      others = λ q np na k l. vacate_other K p pin q k np l ∙ x.others q na k l;
    }
