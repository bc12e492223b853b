-- The header, across the effects of which calls are made. Assumes nothing.
use Prim.Native.Nat.{ℕ, ◌*◌, ◌<◌}
use mathlib.Core.Path.{refl, ◌∙◌}
use mathlib.Core.List.{List}
use native.Mathlib.Omega.{arith}
use Rattle.machine.specs.Machine.{map_words}
use Rattle.ledger.specs.Ledger.{occupy, vacate, run}
use Rattle.ledger.proofs.Views.{run_other}
use Rattle.ledger.proofs.Effects.{occupy_header, vacate_header}
use Rattle.kept.proofs.Facts.Wrote.{Wrote}
use Rattle.promises.proofs.Moves.{Head, Calm}

-- one record is written; a free page is taken; a page is given back; the running word changes
pub calm_wrote : {L L' : List ℕ} {p : ℕ} → Wrote L L' p → Calm L L'
calm_wrote x =
    record {
      head = record { key = λ k lo hi. x.head k (omega arith); rest = λ k lo hi. x.head k hi };
      still = x.head 0 (omega arith);
    }

pub calm_occupy : (L : List ℕ) (p : ℕ) (vs : List ℕ) → p < 32 * map_words → Calm L (occupy L p vs)
calm_occupy L p vs l =
    record {
      head = record {
        key = λ k lo hi. occupy_header L p vs k (omega arith) (λ e. omega arith);
        rest = λ k lo hi. occupy_header L p vs k hi (λ e. omega arith);
      };
      still = occupy_header L p vs 0 (omega arith) (λ e. omega arith);
    }

pub calm_vacate : (L : List ℕ) (p : ℕ) → p < 32 * map_words → Calm L (vacate L p)
calm_vacate L p l =
    record {
      head = record {
        key = λ k lo hi. vacate_header L p k (omega arith) (λ e. omega arith);
        rest = λ k lo hi. vacate_header L p k hi (λ e. omega arith);
      };
      still = vacate_header L p 0 (omega arith) (λ e. omega arith);
    }

pub head_run : (L : List ℕ) (v : ℕ) → Head L (run L v)
head_run L v =
    record {
      key = λ k lo hi. run_other L v k (λ e. omega arith);
      rest = λ k lo hi. run_other L v k (λ e. omega arith);
    }

pub head_same : (L : List ℕ) → Head L L
head_same L = record { key = λ k _ _. refl; rest = λ k _ _. refl }

pub head_then : {L L' L'' : List ℕ} → Head L L' → Head L' L'' → Head L L''
head_then x y =
    record {
      key = λ k lo hi. y.key k lo hi ∙ x.key k lo hi;
      rest = λ k lo hi. y.rest k lo hi ∙ x.rest k lo hi;
    }

pub calm_then : {L L' L'' : List ℕ} → Calm L L' → Calm L' L'' → Calm L L''
calm_then x y = record { head = head_then x.head y.head; still = y.still ∙ x.still }
