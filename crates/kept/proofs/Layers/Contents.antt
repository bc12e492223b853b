-- No record changes, and of the pages' memory only that of data pages: call 42, and what outsiders do to insecure frames. Assumes nothing.
use Prim.Native.Nat.{ℕ, ◌+◌, ◌<◌}
use mathlib.Core.Path.{◌≡◌, refl}
use mathlib.Core.Logic.{⊎_elim}
use native.Mathlib.Omega.{arith}
use Rattle.machine.specs.declared.Machine.{Machine}
use Rattle.machine.specs.Machine.{frame_words}
use Rattle.mapping.specs.Mapping.{slot_of}
use Rattle.ledger.specs.Names.{data_page}
use Rattle.accept.specs.Accept.{Words, PageOk, Tables, Rules}
use Rattle.kept.proofs.Facts.Layouts.{zeros_same}
use Rattle.kept.proofs.Facts.Leaves.{stands_moved, leaves}

module _ {b : Machine} {h : ℕ → ℕ} {w m m' : Words} (ok : Rules b h w m)
    (memory : (q : ℕ) → q < b.pages → (w q 0 ≡ data_page → ⊥) → (k : ℕ) → k < frame_words → m' (b.secure + q) k ≡ m (b.secure + q) k) where
  page : (p : ℕ) → p < b.pages → PageOk b w m' p
  page p l =
      let o = ok.pages p l in
      record {
        layout = o.layout;
        owner = o.owner;
        idle = o.idle;
        blank = λ t. zeros_same (memory p l (λ e. ⊎_elim (λ y. omega arith) (λ y. omega arith) t)) (o.blank t);
      }

  tables : (a : ℕ) → Tables b w m a → Tables b w m' a
  tables a old =
      leaves old ok.pages (λ t q l i k kl. refl) (λ t q l i. i) refl
      (memory (w a 2) old.first.below (λ e. omega (arith, old.first.type)))
      (λ T j i l. rw (memory T i.below (λ e. omega (arith, i.type)) j l) (old.slots T j i l))
      (λ d i.
      let s = old.stands d i in
      stands_moved s refl s.is_table refl
      (memory s.table s.is_table.below (λ e. omega (arith, s.is_table.type)) (slot_of (w d 2)) (omega arith)))

  pub stores_kept : Rules b h w m'
  stores_kept =
      record {
        header = ok.header;
        pages = page;
        spaces = λ a l e.
            let s = ok.spaces a l e in
            record { count = s.count; blocks = s.blocks; calm = s.calm; room = s.room; tables = λ n. tables a (s.tables n) };
      }
