-- Where an address of a space that is not stopped leads: to an insecure frame, or to a data page of the space's that is mapped there.
-- Assumes nothing.
use Prim.Native.Nat.{ℕ, ◌+◌, ◌-◌, ◌/◌, ◌%◌, ◌^◌, ◌<◌}
use mathlib.Core.Path.{◌≡◌, sym, ap, ◌∙◌}
use mathlib.Core.Bool.{Bool}
use mathlib.Core.List.{List}
use mathlib.Core.Logic.{◌⊎◌, ⊎_elim, inl, inr}
use native.Mathlib.Omega.{arith}
use Rattle.machine.specs.declared.Machine.{Machine}
use Rattle.machine.specs.Machine.{Insecure}
use Rattle.mapping.specs.Mapping.{page_bytes, index_of, slot_of}
use Rattle.ledger.specs.Names.{running_word, space, data_page, stopped}
use Rattle.ledger.specs.Ledger.{header, rec}
use Rattle.std.specs.Prelude.{Some}
use Rattle.walk.specs.Walk.{translate, frame_of}
use Rattle.walk.proofs.Laws.{Translates, translated}
use Rattle.answer.specs.Answer.{owner}
use Rattle.accept.specs.Accept.{Is, mapping_of, Accepted}
use Rattle.accept.proofs.Slots.{slot_must}
use Rattle.enclave.specs.Calls.{first_page}
use Rattle.kept.proofs.Facts.Leaves.{own_table}
use Rattle.kept.proofs.Facts.Acting.{acts}

-- frame f is that of a data page of a's whose mapping word has va's page, or it is insecure
pub record OpenTo (b : Machine) (L : List ℕ) (a va f : ℕ) : Type 0 where
  pub to : ((d : ℕ) × Is b (rec L) a data_page d × (f ≡ b.secure + d) × (va / page_bytes ≡ rec L d 2 / page_bytes)) ⊎ Insecure b f

page_of : (va r : ℕ) → va < 2 ^ 30 → r < 8 → va / 4096 ≡ mapping_of (index_of va) (slot_of va) r / 4096
page_of va r l m = omega arith

module _ {b : Machine} {M L : List ℕ} (ok : Accepted b M L) where
  pub leads : {a va v : ℕ} {write : Bool} → a < b.pages → rec L a 0 ≡ space → (rec L a 3 ≡ stopped → ⊥)
      → Translates M b.secure (rec L a 2) va write v → OpenTo b L a va (frame_of v)
  leads {a} {va} {v} al type going x =
      let tables = (ok.rules.spaces a al type).tables going in
      let (table, index) = own_table tables x.holds in
      let s = slot_must x.taken (rw (index, x.holds.slot) at (tables.slots x.holds.table (slot_of va) table (omega arith))) in
      record {
        to =
            ⊎_elim (λ out. inr out.0)
            (λ y.
            inl (
              v / 4096 - b.secure,
              y.page,
              omega (arith, y.above),
              page_of va (v % 4096) x.low s.small ∙ sym (ap (λ (map : ℕ). map / 4096) y.map),
            ))
            s.where_to;
      }

  pub open_through : {v : ℕ} (t : ℕ) → header L running_word ≡ t + 1 → (va : ℕ) (write : Bool)
      → translate M b.secure (first_page L) va write ≡ Some v → OpenTo b L (owner L) va (frame_of v)
  open_through t runs va write e =
      let (al, type, now) = acts ok t runs in
      leads al type (λ z. omega arith) (translated M b.secure (first_page L) va write e)

-- so of the pages it is none but a data page's
pub open_data : {b : Machine} {L : List ℕ} {a va f : ℕ} → OpenTo b L a va f → (q : ℕ) → q < b.pages → (rec L q 0 ≡ data_page → ⊥)
    → b.secure + q ≡ f → ⊥
open_data {L = L} may q l other e =
    ⊎_elim (λ x. other (ap (λ (y : ℕ). rec L y 0) {x = q} {y = x.0} (omega (arith, x.2)) ∙ x.1.type))
    (λ out. ⊎_elim (λ y. omega arith) (λ y. omega arith) out.not_secure) may.to
