-- What calls 35 to 40 do to the ledger where no check refuses. Assumes nothing.
use Prim.Native.Nat.{ℕ, suc, ◌+◌, ◌-◌, ◌≤◌, ◌<◌}
use mathlib.Core.Path.{◌≡◌, ap, ◌∙◌}
use mathlib.Core.List.{List, [], ◌∷◌}
use mathlib.Core.Logic.{⊎_elim, inl, inr}
use native.Mathlib.Omega.{arith}
use lib.ListN.{length, get_or, take, length-take, get_or-append}
use lib.Seq.{length-take-le, get_or-take}
use Rattle.machine.specs.declared.Machine.{Machine}
use Rattle.ledger.specs.Names.{running_word, second_level, data_page, spare}
use Rattle.ledger.specs.Ledger.{header, rec, puts, anew, run}
use Rattle.ledger.proofs.Views.{anew_same, puts_word, run_same, run_rec}
use Rattle.answer.specs.Refusals.{not_own_data}
use Rattle.answer.specs.Answer.{running, owner}
use Rattle.accept.specs.Accept.{Accepted}
use Rattle.enclave.specs.Calls.{own_code, spare_table_code, map_data_code, top_four}
use Rattle.enclave.proofs.Laws.{passes_own, passes_spare_table, passes_map_data}
use Rattle.kept.proofs.Facts.Acting.{runs}
use Rattle.kept.proofs.Facts.Bridge.{record_in}
use Rattle.kept.proofs.Facts.Wrote.{Wrote, wrote_puts, wrote_anew}
use Rattle.kept.proofs.Layers.Rewrite.{word_here}
use Rattle.kept.proofs.Calls.Interrupt.{saves, length_saves, flags_last}
use Rattle.promises.proofs.Moves.{Turning, Ending, Suspending}
use Rattle.promises.proofs.Moved.Steps.{calm_wrote, head_run, head_then}

-- ---- 35 to 37: a page of the running space becomes another
turning : {b : Machine} {M L : List ℕ} (p t : ℕ) (vs : List ℕ) → Accepted b M L → p < b.pages → rec L p 0 ≡ t
    → Turning b L (anew L p vs) p t vs
turning {b} {M} {L} p t vs ok pl was =
    let x = wrote_anew L p vs in
    record {
      calm = calm_wrote x;
      p_below = pl;
      was = was;
      new = anew_same L p vs (record_in ok p pl);
      others = x.others;
    }

pub turning_table : {b : Machine} {M L : List ℕ} (p i : ℕ) → Accepted b M L → spare_table_code b M L p i ≡ 0
    → Turning b L (anew L p (second_level ∷ owner L ∷ i ∷ [])) p spare (second_level ∷ owner L ∷ i ∷ [])
turning_table {b} {M} {L} p i ok z =
    let (pl, _, was, _, _) = passes_spare_table b M L p i z in
    turning p spare (second_level ∷ owner L ∷ i ∷ []) ok pl was

pub turning_data : {b : Machine} {M L : List ℕ} (p map : ℕ) → Accepted b M L → map_data_code b M L p map ≡ 0
    → Turning b L (anew L p (data_page ∷ owner L ∷ map ∷ [])) p spare (data_page ∷ owner L ∷ map ∷ [])
turning_data {b} {M} {L} p map ok z =
    let (pl, _, was, _, _) = passes_map_data b M L p map z in
    turning p spare (data_page ∷ owner L ∷ map ∷ []) ok pl was

pub turning_spare : {b : Machine} {M L : List ℕ} (p : ℕ) → Accepted b M L → own_code b L p data_page not_own_data ≡ 0
    → Turning b L (anew L p (spare ∷ owner L ∷ [])) p data_page (spare ∷ owner L ∷ [])
turning_spare {b} {M} {L} p ok z = let (pl, _, was) = passes_own b L p data_page 16 z in turning p data_page (spare ∷ owner L ∷ []) ok pl was

-- ---- 38 and 40: nobody runs
pub ending : {b : Machine} {M L : List ℕ} → Accepted b M L → Ending L (run L 0)
ending {L = L} ok = record { head = head_run L 0; nobody = run_same L 0 (omega (arith, ok.lent.ledger)); all = λ q k l. run_rec L 0 q k }

-- ---- 39: nobody runs, and the thread that ran is suspended
saves_register : (regs : List ℕ) (j : ℕ) → j < 16 → length regs ≡ 17 → get_or (saves regs) (4 + j - 3) 0 ≡ get_or regs j 0
saves_register regs j l e =
    ap (λ (k : ℕ). get_or (saves regs) k 0) {x = 4 + j - 3} {y = suc j} (omega arith)
    ∙ get_or-append (take 16 regs) (top_four (get_or regs 16 0) ∷ []) 0 j (omega (arith, length-take-le 16 regs (omega arith)))
    ∙ get_or-take 16 regs j 0 l

pub suspending : {b : Machine} {M L : List ℕ} (regs : List ℕ) → Accepted b M L → header L running_word ≡ running L + 1
    → Suspending L (run (puts L (running L) 3 (saves regs)) 0) regs
suspending {b} {M} {L} regs ok turn =
    let t = running L in
    let vs = saves regs in
    let r = runs ok t turn in
    let size = length_saves regs in
    let part = length-take 16 regs in
    let few : length vs ≤ 18 = omega arith in
    let K = puts L t 3 vs in
    let x : Wrote L K t = wrote_puts L t 3 vs (omega arith) in
    let here = word_here ok r.below r.is_thread r.of_final vs few in
    record {
      head = head_then (calm_wrote x).head (head_run K 0);
      was = turn;
      nobody = run_same K 0 (omega (arith, x.size, ok.lent.ledger));
      is_thread = r.is_thread;
      words = λ j o l. run_rec K 0 t j ∙ puts_word L t 3 vs j (⊎_elim inl (λ m. inr (omega arith)) o);
      saved = λ e.
          let full = length-take-le 16 regs (omega arith) in (
            run_rec K 0 t 3 ∙ here 3 (omega arith) (omega arith),
            λ j l. run_rec K 0 t (4 + j) ∙ here (4 + j) (omega arith) (omega arith) ∙ saves_register regs j l e,
            run_rec K 0 t 20 ∙ here 20 (omega arith) (omega arith) ∙ flags_last regs (omega arith),
          );
      others = λ q n k l. run_rec K 0 q k ∙ x.others q n k l;
    }
