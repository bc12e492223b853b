-- One record, of an address space or a thread, changes from word 3 on, and no memory does: calls 8, 10, 11 and 39. Assumes nothing.
use Prim.Native.Nat.{ℕ, ◌<◌}
use mathlib.Core.Path.{◌≡◌, refl, sym, ◌∙◌}
use mathlib.Core.Logic.{⊎_elim, inl, inr}
use native.Mathlib.Omega.{arith}
use Rattle.words.specs.Words.{record_words, sum_below}
use Rattle.words.proofs.Sums.{sum_ext}
use Rattle.words.proofs.Cases.{same_or}
use Rattle.machine.specs.declared.Machine.{Machine}
use Rattle.ledger.specs.Names.{space, thread}
use Rattle.accept.specs.Accept.{Words, Zeros, Layout, PageOk, Is, Tables, SpaceOk, tally, HeaderOk, Rules}
use Rattle.kept.proofs.Facts.Sums.{tally_same}
use Rattle.kept.proofs.Facts.Leaves.{Linked, apart, is_moved}
use Rattle.kept.proofs.Layers.Frame.{Same, Step, tables_same, step_kept}

pub record Touches (b : Machine) (w w' : Words) (p : ℕ) : Type 0 where
  pub below : p < b.pages
  pub kind : w p 0 < 3
  pub low : (k : ℕ) → k < 3 → w' p k ≡ w p k
  pub others : (q : ℕ) → q < b.pages → (q ≡ p → ⊥) → (k : ℕ) → k < record_words → w' q k ≡ w q k

module _ {b : Machine} {w w' : Words} {p : ℕ} (x : Touches b w w' p) where
  pub low_same : (q : ℕ) → q < b.pages → (k : ℕ) → k < 3 → w' q k ≡ w q k
  low_same q l k kl = ⊎_elim (λ e. rw e (x.low k kl)) (λ n. x.others q l n k (omega arith)) (same_or q p)

  pub sums_touch : (g : ℕ → ℕ) (a : ℕ) → sum_below b.pages (tally g w a) ≡ sum_below b.pages (tally g w' a)
  sums_touch g a =
      sum_ext b.pages _ _ (λ q l. tally_same g w w' a q (low_same q l 0 (omega arith)) (low_same q l 1 (omega arith)))

  pub is_back : {a t q : ℕ} → Is b w' a t q → Is b w a t q
  is_back {q = q} i = is_moved i (sym (low_same q i.below 0 (omega arith))) (sym (low_same q i.below 1 (omega arith)))

  pub tables_touch : {m : Words} (a : ℕ) → a < b.pages → ((q : ℕ) → q < b.pages → PageOk b w m q) → Tables b w m a → Tables b w' m a
  tables_touch {m} a l pages old =
      tables_same old pages (λ t q k i. same t q k i) (λ t q k i. same t q k (is_back i)) (low_same a l 2 (omega arith))
    where
      same : (t q : ℕ) → Linked t → Is b w a t q → Same b w w' m m q
      same t q k i =
          record {
            words = x.others q i.below (apart w i.type refl (λ z. omega (arith, x.kind)));
            memory = λ _ _. refl;
          }

  -- p is a, or a thread of a's
  module _ {h : ℕ → ℕ} {m : Words} {a : ℕ} (ok : Rules b h w m) (is_space : Is b w a space a) (own : w p 1 ≡ a)
      (layout : Layout b.pages p (w' p)) (idle : w' p 0 ≡ thread → w' p 3 ≡ 0 → Zeros (w' p) 4 21) (self : SpaceOk b w' m a) where
    still_space : w' a 0 ≡ space
    still_space = low_same a is_space.below 0 (omega arith) ∙ is_space.type

    page_p : PageOk b w' m p
    page_p =
        record {
          layout = layout;
          owner = λ nz. rw (x.low 1 (omega arith) ∙ own) (is_space.below, still_space);
          idle = idle;
          blank = λ _. (ok.pages p x.below).blank (inl x.kind);
        }

    step : Step b w w' m m a
    step =
        record {
          each = λ q l.
              ⊎_elim (λ e. rw e (inr (inr own, inr (x.low 1 (omega arith) ∙ own), page_p)))
              (λ n. inl (record { words = x.others q l n; memory = λ _ _. refl })) (same_or q p);
          alive = λ q l nz e. still_space;
          self = λ _. self;
        }

    pub touch_kept : {h' : ℕ → ℕ} → HeaderOk b h' w' → Rules b h' w' m
    touch_kept = step_kept step ok
