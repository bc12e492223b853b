-- Call 7, MapInsecure a, map, frame, keeps what acceptance demands. Assumes nothing.
use Prim.Native.Nat.{ℕ, ◌+◌, ◌/◌, ◌%◌, ◌<◌}
use mathlib.Core.Path.{◌≡◌, refl}
use mathlib.Core.Bool.{true, false}
use mathlib.Core.List.{List}
use mathlib.Core.Logic.{⊎_elim, inl}
use native.Mathlib.Omega.{arith}
use borrow.Author.Tests.{eqb-false}
use Rattle.words.specs.Words.{bits}
use Rattle.words.proofs.Cases.{same_or}
use Rattle.machine.specs.declared.Machine.{Machine}
use Rattle.machine.specs.Machine.{Insecure}
use Rattle.mapping.specs.Mapping.{slot_of, rights_of, executes, well_formed}
use Rattle.ledger.specs.Names.{space, building}
use Rattle.ledger.specs.Ledger.{rec}
use Rattle.memory.proofs.Frames.{length-put_word, put_word_same}
use Rattle.walk.specs.Walk.{filled, slot_word}
use Rattle.walk.proofs.Laws.{Holds, filled_table}
use Rattle.answer.specs.Answer.{done}
use Rattle.answer.proofs.Laws.{kept_by_call}
use Rattle.accept.specs.Accept.{SlotOk.outside, Accepted}
use Rattle.building.specs.Calls.{map_insecure_code, map_insecure}
use Rattle.building.proofs.Laws.{passes_map_insecure}
use Rattle.kept.proofs.Facts.Mappings.{is_well_formed, rights_odd}
use Rattle.kept.proofs.Facts.Leaves.{own_table}
use Rattle.kept.proofs.Layers.Fill.{slot_kept}
use Rattle.kept.proofs.Facts.Bridge.{page_in, word_other, is_space, accepted}

-- rights that do not execute
no_execute : (map : ℕ) → executes map ≡ false → rights_of map < 4
no_execute map e = let n = eqb-false (bits 2 1 map) 1 e in ⊎_elim (λ (z : map / 4 % 2 ≡ 1). absurd (n z)) (λ z. omega arith) (same_or (map / 4 % 2) 1)

module _ {b : Machine} {M L : List ℕ} (ok : Accepted b M L) {a map g : ℕ} (al : a < b.pages) (type : rec L a 0 ≡ space) (now : rec L a 3 ≡ building)
    (good : well_formed map ≡ true) (low : executes map ≡ false) (place : Holds M b.secure (rec L a 2) map 0) (out : Insecure b g) where
  filled_kept : Accepted b (filled M b.secure (rec L a 2) map (slot_word g (rights_of map))) L
  filled_kept =
      let T = place.table in
      let table = own_table ((ok.rules.spaces a al type).tables (λ z. omega arith)) place in
      let v = slot_word g (rights_of map) in
      rw (filled_table M b.secure (rec L a 2) map v T place.named)
      (accepted ok (length-put_word M (b.secure + T) (slot_of map) v) refl
      (slot_kept (is_space ok al type) (λ z. omega arith) ok.rules
      (record {
        table = table.0;
        slot = omega arith;
        was = place.slot;
        here = put_word_same M (b.secure + T) (slot_of map) v (omega (arith, page_in ok T table.0.below));
        new = outside g (rights_of map) out (no_execute map low) (rights_odd (is_well_formed good));
        link = refl;
        on = λ t q l i k kl. refl;
        back = λ t q l i. inl i;
        memory = λ t q l i k kl n. word_other M b.secure T (slot_of map) v q k (omega arith) kl n;
      })
      (λ q n k kl. word_other M b.secure T (slot_of map) v q k (omega arith) kl (λ e _. n e))))

pub kept_map_insecure : (b : Machine) (M L : List ℕ) (a map g : ℕ) → Accepted b M L
    → Accepted b (map_insecure b M L a map g).mem (map_insecure b M L a map g).led
unfolding map_insecure
kept_map_insecure b M L a map g ok =
    kept_by_call (Accepted b) (map_insecure_code b M L a map g) M L (done (filled M b.secure (rec L a 2) map (slot_word g (rights_of map))) L) ok
    (λ z.
    let (al, type, now, good, low, place, out) = passes_map_insecure b M L a map g z in
    filled_kept ok al type now good low place out)
