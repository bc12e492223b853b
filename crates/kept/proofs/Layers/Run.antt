-- The running word changes: alone in calls 9, 38 and 40, after a record in calls 10 and 39. Assumes nothing.
use Prim.Native.Nat.{ℕ, ◌+◌, ◌≤◌, ◌<◌}
use mathlib.Core.Path.{◌≡◌, refl, sym, fun_ext, ◌∙◌}
use mathlib.Core.List.{List}
use native.Mathlib.Omega.{arith}
use Rattle.machine.specs.declared.Machine.{Machine}
use Rattle.machine.specs.Machine.{header_words, map_words, map_start}
use Rattle.ledger.specs.Ledger.{header, rec, run}
use Rattle.ledger.proofs.Views.{length_run, run_same, run_other, run_rec}
use Rattle.accept.specs.Accept.{Runs, HeaderOk, Accepted}
use Rattle.kept.proofs.Facts.Exact.{Exact}
use Rattle.kept.proofs.Facts.Bridge.{exact, accepted}

-- the running word is none of a record's
pub rec_run : (L : List ℕ) (v : ℕ) → rec (run L v) ≡ rec L
rec_run L v = fun_ext (λ q. fun_ext (λ k. run_rec L v q k))

-- the header, where the words past the map were as in an accepted ledger
pub run_header : {b : Machine} {M L L' : List ℕ} → Accepted b M L → Exact b.pages L'
    → ((k : ℕ) → map_start + map_words ≤ k → k < header_words → header L' k ≡ header L k)
    → (v : ℕ) → ((t : ℕ) → v ≡ t + 1 → Runs b (rec L') t) → HeaderOk b (header (run L' v)) (rec L')
run_header {L' = L'} ok ex rest v runs =
    record {
      runs = λ t e. runs t (sym (run_same L' v (omega (arith, ex.size))) ∙ e);
      free_map = λ j l. run_other L' v (map_start + j) (λ e. omega arith) ∙ ex.map j l;
      rest = λ k lo hi. run_other L' v k (λ e. omega arith) ∙ rest k lo hi ∙ ok.rules.header.rest k lo hi;
    }

pub run_kept : {b : Machine} {M L : List ℕ} → Accepted b M L → (v : ℕ) → ((t : ℕ) → v ≡ t + 1 → Runs b (rec L) t) → Accepted b M (run L v)
run_kept {L = L} ok v runs =
    let o = ok.rules in
    accepted ok refl (length_run L v)
    (rw (rec_run L v) (record { header = run_header ok (exact ok) (λ k lo hi. refl) v runs; pages = o.pages; spaces = o.spaces }))

-- nobody runs
pub end_kept : {b : Machine} {M L : List ℕ} → Accepted b M L → Accepted b M (run L 0)
end_kept ok = run_kept ok 0 (λ t e. absurd (omega arith))
