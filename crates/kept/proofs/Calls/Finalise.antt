-- Call 8, Finalise a, keeps what acceptance demands. Assumes nothing.
use Prim.Native.Nat.{ℕ, ◌<◌, ◌≤◌}
use mathlib.Core.Path.{◌≡◌, ◌∙◌}
use mathlib.Core.List.{List}
use mathlib.Core.Logic.{◌⊎◌, ⊎_elim, inl}
use native.Mathlib.Omega.{arith}
use Rattle.words.proofs.Cases.{same_or}
use Rattle.machine.specs.declared.Machine.{Machine}
use Rattle.sha256.specs.Sha256.{finish}
use Rattle.ledger.specs.Names.{space, building, final}
use Rattle.ledger.specs.Ledger.{rec, hash, put, put_hash}
use Rattle.ledger.proofs.Views.{put_same, put_word}
use Rattle.ledger.proofs.Effects.{put_hash_word}
use Rattle.answer.specs.Answer.{building_code, done}
use Rattle.answer.proofs.Laws.{kept_by_call, passes_building}
use Rattle.accept.specs.Accept.{Runs, Accepted}
use Rattle.building.specs.Calls.{finalised, finalise}
use Rattle.kept.proofs.Facts.Leaves.{apart}
use Rattle.kept.proofs.Facts.Bridge.{record_in}
use Rattle.kept.proofs.Facts.Wrote.{Wrote, wrote_put, wrote_hash, wrote_then, wrote_header}
use Rattle.kept.proofs.Layers.Settle.{settle_kept}

module _ {b : Machine} {M L : List ℕ} (ok : Accepted b M L) {a : ℕ} (al : a < b.pages) (type : rec L a 0 ≡ space) (was : rec L a 3 ≡ building)
    (h : List ℕ) where
  abbrev L' : List ℕ
  L' = put_hash (put L a 3 final) a h

  wrote : Wrote L L' a
  wrote = wrote_then (wrote_put L a 3 final (omega arith)) (wrote_hash (put L a 3 final) a h)

  same : (k : ℕ) → (k ≡ 3 → ⊥) → (k < 6) ⊎ (14 ≤ k) → rec L' a k ≡ rec L a k
  same k n o = put_hash_word (put L a 3 final) a h k o ∙ put_word L a 3 final k n

  now : rec L' a 3 ≡ final
  now = put_hash_word (put L a 3 final) a h 3 (inl (omega arith)) ∙ put_same L a 3 final (omega (arith, record_in ok a al))

  -- the owner of a running thread is final still
  runs : (t : ℕ) → Runs b (rec L) t → Runs b (rec L') t
  runs t r =
      let s = wrote.others t (apart (rec L) r.is_thread type (λ z. omega arith)) in
      record {
        below = r.below;
        is_thread = s 0 (omega arith) ∙ r.is_thread;
        awake = s 3 (omega arith) ∙ r.awake;
        of_final = rw (s 1 (omega arith))
            (⊎_elim (λ e. rw e now) (λ n. wrote.others (rec L t 1) n 3 (omega arith) ∙ r.of_final) (same_or (rec L t 1) a));
      }

  final_kept : Accepted b M L'
  final_kept =
      let e₀ = same 0 (λ e. omega arith) (inl (omega arith)) in
      settle_kept ok al type wrote same (omega (arith, now)) (λ z. omega (arith, now)) (λ z. omega arith)
      (wrote_header ok wrote al (λ z. omega arith) (λ z. omega arith) runs)

pub kept_finalise : (b : Machine) (M L : List ℕ) (a : ℕ) → Accepted b M L → Accepted b (finalise b M L a).mem (finalise b M L a).led
unfolding finalise finalised
kept_finalise b M L a ok =
    kept_by_call (Accepted b) (building_code b L a) M L (done M (finalised L a)) ok
    (λ z. let (al, type, was) = passes_building b L a z in final_kept ok al type was (finish (hash L a) (rec L a 5)))
