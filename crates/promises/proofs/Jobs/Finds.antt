-- What a space finds at the addresses of one page, by what that page's slot holds. Assumes nothing.
use Prim.Native.Nat.{ℕ, ◌/◌, ◌%◌}
use mathlib.Core.Path.{◌≡◌, refl, sym}
use mathlib.Core.Bool.{Bool, true, false, true≢false}
use mathlib.Core.List.{List}
use mathlib.Core.Option.{none}
use native.Mathlib.Omega.{arith}
use borrow.Author.Tests.{eq-eqb, eqb-true}
use Rattle.machine.specs.declared.Machine.{Machine}
use Rattle.mapping.specs.Mapping.{page_bytes, writes, well_formed}
use Rattle.ledger.specs.Ledger.{first_of}
use Rattle.walk.specs.Walk.{slot_for, slot_word}
use Rattle.walk.proofs.Laws.{Holds, on_page, one_word, Translates, finds, finds_none}
use Rattle.kept.proofs.Facts.Mappings.{is_well_formed}
use Rattle.promises.specs.Jobs.{Mapped}

-- an empty slot's page has nothing
pub gone_from : {M : List ℕ} {s first map : ℕ} → Holds M s first map 0 → (v : ℕ) (write : Bool) → v / page_bytes ≡ map / page_bytes
    → slot_for M s first v write ≡ none
gone_from h v write e = finds_none (λ x t. t.taken (one_word t.holds (on_page v e h)))

-- ---- the slot of a mapping word names frame f with the word's rights
writes_slot : (f map : ℕ) → map / 2 % 2 ≡ 1 → slot_word f (map % 8) / 2 % 2 ≡ 1
writes_slot f map e = omega arith

no_writes_slot : (f map : ℕ) → map / 2 % 2 ≡ 0 → slot_word f (map % 8) / 2 % 2 ≡ 0
no_writes_slot f map e = omega arith

module _ {b : Machine} {M L : List ℕ} {a map : ℕ} where
  pub mapped_to : (f : ℕ) → well_formed map ≡ true → Holds M b.secure (first_of L a) map (slot_word f (map % 8)) → Mapped b M L a map f
  mapped_to f good h =
      record {
        load = λ v al e. finds (leads v false al e (λ t. absurd (true≢false (sym t))));
        store = λ v al e w. finds (leads v true al e (λ _. eq-eqb _ 1 (writes_slot f map w)));
        no_store = λ v e w.
            finds_none
            (λ x t.
            let same : x ≡ slot_word f (map % 8) = one_word t.holds (on_page v e h) in
            let no-right = no_writes_slot f map w in
            let right : x / 2 % 2 ≡ 1 = eqb-true (x / 2 % 2) 1 (t.right refl) in
            omega arith);
      }
    where
      leads : (v : ℕ) (write : Bool) → v % 4 ≡ 0 → v / page_bytes ≡ map / page_bytes → (write ≡ true → writes (slot_word f (map % 8)) ≡ true)
          → Translates M b.secure (first_of L a) v write (slot_word f (map % 8))
      leads v write al e right =
          let m = is_well_formed good in
          record {
            aligned = al;
            low = omega (arith, m.low);
            holds = on_page v e h;
            taken = λ z. omega (arith, m.reads);
            right = right;
          }
