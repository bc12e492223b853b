-- Words 3 to 20 of a thread's record are rewritten, its owner being final, and the running word changes: calls 10 and 39. Assumes nothing.
use Prim.Native.Nat.{ℕ, ◌+◌, ◌-◌, ◌%◌, ◌^◌, ◌≤◌, ◌<◌}
use mathlib.Core.Path.{◌≡◌, refl, ap, ◌∙◌}
use mathlib.Core.List.{List}
use mathlib.Core.Logic.{inl, inr}
use native.Mathlib.Omega.{arith}
use lib.ListN.{length, get_or}
use Rattle.words.specs.Words.{record_words}
use Rattle.machine.specs.declared.Machine.{Machine}
use Rattle.ledger.specs.Names.{space, thread, final}
use Rattle.ledger.specs.Ledger.{rec, puts, run}
use Rattle.ledger.proofs.Views.{puts_same, puts_word, length_run}
use Rattle.memory.specs.Memory.{frame}
use Rattle.accept.specs.Accept.{Zeros, ThreadRec, Is, SpaceOk, counted, Runs, Accepted}
use Rattle.kept.proofs.Facts.Layouts.{layout_of}
use Rattle.kept.proofs.Facts.Leaves.{apart}
use Rattle.kept.proofs.Layers.Touch.{Touches, sums_touch, tables_touch, touch_kept}
use Rattle.kept.proofs.Facts.Bridge.{exact, record_in, owner_space, accepted}
use Rattle.kept.proofs.Facts.Wrote.{Wrote, wrote_puts, wrote_exact}
use Rattle.kept.proofs.Layers.Run.{rec_run, run_header}

module _ {b : Machine} {M L : List ℕ} (ok : Accepted b M L) {t : ℕ} (tl : t < b.pages) (type : rec L t 0 ≡ thread)
    (now : rec L (rec L t 1) 3 ≡ final) (vs : List ℕ) (few : length vs ≤ 18) where
  abbrev a : ℕ
  a = rec L t 1

  abbrev L' : List ℕ
  L' = puts L t 3 vs

  owned : Is b (rec L) a space a
  owned = owner_space ok t tl (λ z. omega arith)

  wrote : Wrote L L' t
  wrote = wrote_puts L t 3 vs (omega arith)

  pub word_here : (k : ℕ) → 3 ≤ k → k < 3 + length vs → rec L' t k ≡ get_or vs (k - 3) 0
  word_here k lo hi =
      ap (λ (x : ℕ). rec L' t x) {x = k} {y = 3 + (k - 3)} (omega arith)
      ∙ puts_same L t 3 vs (k - 3) (omega arith) (omega (arith, record_in ok t tl))

  pub word_past : (k : ℕ) → 3 + length vs ≤ k → rec L' t k ≡ rec L t k
  word_past k l = puts_word L t 3 vs k (inr l)

  low : (k : ℕ) → k < 3 → rec L' t k ≡ rec L t k
  low k l = puts_word L t 3 vs k (inl l)

  owner_same : (k : ℕ) → k < record_words → rec L' a k ≡ rec L a k
  owner_same = wrote.others a (apart (rec L) owned.type type (λ z. omega arith))

  touches : Touches b (rec L) (rec L') t
  touches = record { below = tl; kind = omega arith; low = low; others = λ q l n. wrote.others q n }

  self : SpaceOk b (rec L') (frame M) a
  self =
      let old = ok.rules.spaces a owned.below owned.type in
      let e₃ = owner_same 3 (omega arith) in
      record {
        count = owner_same 4 (omega arith) ∙ old.count ∙ sums_touch touches counted a;
        blocks = λ z. absurd (omega arith);
        calm = λ z. absurd (omega arith);
        room = λ _. rw (owner_same 5 (omega arith)) (old.room (λ z. omega arith));
        tables = λ _. tables_touch touches a owned.below ok.rules.pages (old.tables (λ z. omega arith));
      }

  pub awake_runs : rec L' t 3 ≡ 0 → Runs b (rec L') t
  awake_runs z =
      record {
        below = tl;
        is_thread = low 0 (omega arith) ∙ type;
        awake = z;
        of_final = rw (low 1 (omega arith)) (owner_same 3 (omega arith) ∙ now);
      }

  pub rewrite_kept : (v : ℕ) → rec L' t 3 < 2 → rec L' t 20 % 2 ^ 28 ≡ 0 → (rec L' t 3 ≡ 0 → Zeros (rec L' t) 4 21)
      → ((u : ℕ) → v ≡ u + 1 → Runs b (rec L') u) → Accepted b M (run L' v)
  rewrite_kept v state flags idle runs =
      let type' = low 0 (omega arith) ∙ type in
      let old = (ok.rules.pages t tl).layout.is_thread type in
      let words : ThreadRec (rec L' t) =
      record {
        entry = rw (low 2 (omega arith)) old.entry;
        suspended = state;
        flags = flags;
        rest = λ k lo hi. word_past k (omega arith) ∙ old.rest k lo hi;
      } in
      accepted ok refl (length_run L' v ∙ wrote.size)
      (rw (rec_run L' v)
      (touch_kept touches ok.rules owned refl (layout_of type' (omega arith) words) (λ _. idle) self
      (run_header ok (wrote_exact (exact ok) wrote tl (λ z. omega arith) (λ z. omega arith)) (λ k lo hi. wrote.head k hi) v runs)))
