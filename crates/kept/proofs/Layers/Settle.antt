-- A space's state changes, not to building, and its hash may: calls 8 and 11. Assumes nothing.
use Prim.Native.Nat.{ℕ, ◌≤◌, ◌<◌}
use mathlib.Core.Path.{◌≡◌, refl, ◌∙◌}
use mathlib.Core.List.{List}
use mathlib.Core.Logic.{◌⊎◌, inl, inr}
use native.Mathlib.Omega.{arith}
use Rattle.machine.specs.declared.Machine.{Machine}
use Rattle.ledger.specs.Names.{space, building, stopped}
use Rattle.ledger.specs.Ledger.{header, rec}
use Rattle.memory.specs.Memory.{frame}
use Rattle.accept.specs.Accept.{SpaceRec, SpaceOk, counted, HeaderOk, Accepted}
use Rattle.kept.proofs.Facts.Layouts.{layout_of}
use Rattle.kept.proofs.Layers.Touch.{Touches, sums_touch, tables_touch, touch_kept}
use Rattle.kept.proofs.Facts.Bridge.{is_space, blocks_few, accepted}
use Rattle.kept.proofs.Facts.Wrote.{Wrote}

module _ {b : Machine} {M L L' : List ℕ} (ok : Accepted b M L) {a : ℕ} (al : a < b.pages) (type : rec L a 0 ≡ space) (x : Wrote L L' a)
    (same : (k : ℕ) → (k ≡ 3 → ⊥) → (k < 6) ⊎ (14 ≤ k) → rec L' a k ≡ rec L a k)
    (known : rec L' a 3 < 3) (built : rec L' a 3 ≡ building → ⊥) (still : rec L a 3 ≡ stopped → rec L' a 3 ≡ stopped) where
  low : (k : ℕ) → (k ≡ 3 → ⊥) → k < 6 → rec L' a k ≡ rec L a k
  low k n l = same k n (inl l)

  touches : Touches b (rec L) (rec L') a
  touches = record { below = al; kind = omega (arith, type); low = λ k l. low k (λ e. omega arith) (omega arith); others = λ q l n. x.others q n }

  old : SpaceOk b (rec L) (frame M) a
  old = ok.rules.spaces a al type

  self : SpaceOk b (rec L') (frame M) a
  self =
      record {
        count = low 4 (λ e. omega arith) (omega arith) ∙ old.count ∙ sums_touch touches counted a;
        blocks = λ z. absurd (built z);
        calm = λ z. absurd (built z);
        room = λ _. rw (low 5 (λ e. omega arith) (omega arith)) (blocks_few ok al type);
        tables = λ n. tables_touch touches a al ok.rules.pages (old.tables (λ z. n (still z)));
      }

  words : SpaceRec b.pages a (rec L' a)
  words =
      let r = (ok.rules.pages a al).layout.is_space type in
      record {
        itself = low 1 (λ e. omega arith) (omega arith) ∙ r.itself;
        first = rw (low 2 (λ e. omega arith) (omega arith)) r.first;
        state = known;
        rest = λ k lo hi. same k (λ e. omega arith) (inr lo) ∙ r.rest k lo hi;
      }

  pub settle_kept : HeaderOk b (header L') (rec L') → Accepted b M L'
  settle_kept head =
      let type' = low 0 (λ e. omega arith) (omega arith) ∙ type in
      let sp = is_space ok al type in
      accepted ok refl x.size
      (touch_kept touches ok.rules sp sp.own (layout_of type' (omega arith) words) (λ t. absurd (omega arith)) self head)
