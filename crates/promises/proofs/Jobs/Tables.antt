-- What calls 4 and 35 are for: a table of the space under its index, all its slots empty. Assumes nothing.
use Prim.Native.Nat.{ℕ, ◌+◌, ◌<◌}
use mathlib.Core.Path.{◌≡◌, refl, sym, ◌∙◌}
use mathlib.Core.List.{List, [], ◌∷◌}
use mathlib.Core.Logic.{⊎_elim, inl, inr}
use native.Mathlib.Omega.{arith}
use Rattle.machine.specs.declared.Machine.{Machine}
use Rattle.ledger.specs.Names.{second_level, stopped}
use Rattle.ledger.specs.Ledger.{rec}
use Rattle.memory.proofs.Frames.{put_word_frame}
use Rattle.walk.specs.Walk.{linked}
use Rattle.accept.specs.Accept.{Blank, Accepted}
use Rattle.building.specs.Calls.{init_table}
use Rattle.building.proofs.Laws.{passes_init_table}
use Rattle.enclave.specs.Calls.{spare_table}
use Rattle.enclave.proofs.Laws.{passes_spare_table}
use Rattle.records.specs.Records.{arg}
use Rattle.calls.specs.Table.{calls, lookup}
use Rattle.kept.proofs.Facts.Acting.{acts}
use Rattle.kept.proofs.Facts.Bridge.{tables_of}
use Rattle.kept.proofs.Facts.Leaves.{apart}
use Rattle.promises.specs.Jobs.{Tabled, InitTableIsFor, SpareTableIsFor}
use Rattle.promises.proofs.Kept.{every_record_keeps}
use Rattle.promises.proofs.Opened.{effect, runs_for}
use Rattle.promises.proofs.Moved.Building.{making_table}
use Rattle.promises.proofs.Moved.Enclave.{turning_table}
use Rattle.promises.proofs.Moved.Given.{Given, made, turned, is_new}

-- a space that is not stopped gets page p, a free or spare one, as its table for index i
tabled : {b : Machine} {M L L' : List ℕ} {a p i : ℕ} → Accepted b M L → a < b.pages → (rec L a 3 ≡ stopped → ⊥) → i < 256 → Blank (rec L p 0)
    → Given b L L' a p (second_level ∷ a ∷ i ∷ []) → Accepted b (linked M b.secure (rec L a 2) i p) L'
    → Tabled b (linked M b.secure (rec L a 2) i p) L' a p i
unfolding linked
tabled {b} {M} {L} {L'} {a} {p} {i} ok al going small was x ok' =
    let first = (tables_of ok al x.is_space going).first in
    let tables = tables_of ok' al (x.low 0 (omega arith) ∙ x.is_space) (λ z. going (sym (x.low 3 (omega arith)) ∙ z)) in
    let other : p ≡ rec L a 2 → ⊥ = apart (rec L) refl first.type (λ z. ⊎_elim (λ l. omega arith) (λ l. omega arith) was) in
    record {
      is_table = is_new x;
      index = x.new 2 (omega arith);
      linked = rw (x.new 2 (omega arith)) at (tables.named p (is_new x));
      empty = λ k l.
          put_word_frame M (b.secure + rec L a 2) i (p + 1) (omega arith) (b.secure + p) k (λ e. other (omega arith)) l
          ∙ (ok.rules.pages p x.below).blank was k (omega arith) l;
    }

pub init_table_is_for : InitTableIsFor
unfolding lookup calls init_table
init_table_is_for b M L W ok did =
    let (z, e) = effect refl did refl in
    let (al, _, now, _, was, small, _) = passes_init_table b M L (arg W 1) (arg W 2) (arg W 3) z in
    let x = made (making_table (arg W 1) (arg W 2) (arg W 3) ok z).1 in
    rw e (tabled ok al (λ u. omega arith) small (inl (omega arith)) x (rw e at (every_record_keeps b M L W ok)))

pub spare_table_is_for : SpareTableIsFor
unfolding lookup calls spare_table
spare_table_is_for b M L W a ok r did =
    let (z, e) = effect refl did refl in
    let (al, type, now) = acts ok r.page r.word in
    let (_, _, was, small, _) = passes_spare_table b M L (arg W 1) (arg W 2) z in
    let x = turned type (λ u. omega arith) (turning_table (arg W 1) (arg W 2) ok z) in
    rw (← runs_for r) (rw e (tabled ok al (λ u. omega arith) small (inr was) x (rw e at (every_record_keeps b M L W ok))))
