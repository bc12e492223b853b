-- Any legal entry may stand in a thread's record. Assumes nothing.
use Prim.Native.Nat.{ℕ, ◌<◌}
use mathlib.Core.Path.{◌≡◌, refl, sym, ◌∙◌}
use mathlib.Core.Bool.{true}
use mathlib.Core.Logic.{inl, inr, ⊎_elim}
use mathlib.Core.List.{List}
use native.Mathlib.Omega.{arith}
use Rattle.words.specs.Words.{record_words, sum_below}
use Rattle.words.proofs.Cases.{same_or}
use Rattle.words.proofs.Sums.{sum_ext}
use Rattle.machine.specs.declared.Machine.{Machine}
use Rattle.mapping.specs.Entry.{legal_entry}
use Rattle.ledger.specs.Names.{space}
use Rattle.ledger.specs.Ledger.{rec, put}
use Rattle.ledger.proofs.Views.{put_same, put_other}
use Rattle.memory.specs.Memory.{frame}
use Rattle.accept.specs.Accept.{Is, PageOk, SpaceOk, counted, measured, tally, Accepted}
use Rattle.kept.proofs.Facts.Sums.{tally_same}
use Rattle.kept.proofs.Facts.Layouts.{layout_of}
use Rattle.kept.proofs.Facts.Leaves.{Linked, apart, is_moved}
use Rattle.kept.proofs.Facts.Bridge.{record_in, owner_space, accepted}
use Rattle.kept.proofs.Facts.Wrote.{Wrote, wrote_put, wrote_header}
use Rattle.kept.proofs.Layers.Frame as Frame
use Rattle.kept.proofs.Layers.Frame.{Step, tables_same, step_kept, runs_kept}
use Rattle.promises.specs.Entries.{IsThread}

module _ {b : Machine} {M L : List ℕ} (ok : Accepted b M L) {t : ℕ} (is : IsThread b L t) (entry : ℕ) (legal : legal_entry entry ≡ true) where
  abbrev a : ℕ
  a = rec L t 1

  abbrev L' : List ℕ
  L' = put L t 2 entry

  wrote : Wrote L L' t
  wrote = wrote_put L t 2 entry (omega arith)

  stays : (q k : ℕ) → (k ≡ 2 → ⊥) → k < record_words → rec L' q k ≡ rec L q k
  stays q k n l = put_other L t 2 entry q k (λ e. n (omega arith))

  type_of : (q : ℕ) → rec L' q 0 ≡ rec L q 0
  type_of q = stays q 0 (λ e. omega arith) (omega arith)

  own_of : (q : ℕ) → rec L' q 1 ≡ rec L q 1
  own_of q = stays q 1 (λ e. omega arith) (omega arith)

  third : (q : ℕ) → rec L' q 3 ≡ rec L q 3
  third q = stays q 3 (λ e. omega arith) (omega arith)

  owned : Is b (rec L) a space a
  owned = owner_space ok t is.below (λ z. omega arith)

  sums : (g : ℕ → ℕ) → sum_below b.pages (tally g (rec L) a) ≡ sum_below b.pages (tally g (rec L') a)
  sums g = sum_ext b.pages _ _ (λ q l. tally_same g (rec L) (rec L') a q (type_of q) (own_of q))

  back : {u q : ℕ} → Is b (rec L') a u q → Is b (rec L) a u q
  back {q = q} i = is_moved i (sym (type_of q)) (sym (own_of q))

  linked : (u q : ℕ) → Linked u → Is b (rec L) a u q → Frame.Same b (rec L) (rec L') (frame M) (frame M) q
  linked u q k i = record { words = wrote.others q (apart (rec L) i.type is.type (λ z. omega arith)); memory = λ _ _. refl }

  self : SpaceOk b (rec L') (frame M) a
  self =
      let old = ok.rules.spaces a owned.below owned.type in
      let e₅ = stays a 5 (λ e. omega arith) (omega arith) in
      record {
        count = stays a 4 (λ e. omega arith) (omega arith) ∙ old.count ∙ sums counted;
        blocks = λ z. e₅ ∙ old.blocks (sym (third a) ∙ z) ∙ sums measured;
        calm = λ z q i. third q ∙ old.calm (sym (third a) ∙ z) q (back i);
        room = λ n. rw e₅ (old.room (λ z. n (third a ∙ z)));
        tables = λ n.
            tables_same (old.tables (λ z. n (third a ∙ z))) ok.rules.pages linked (λ u q k i. linked u q k (back i))
            (wrote.others a (apart (rec L) owned.type is.type (λ z. omega arith)) 2 (omega arith));
      }

  page : PageOk b (rec L') (frame M) t
  page =
      let old = ok.rules.pages t is.below in
      let r = old.layout.is_thread is.type in
      record {
        layout =
            layout_of (type_of t ∙ is.type) (omega arith)
            (record {
              entry = rw (put_same L t 2 entry (omega (arith, record_in ok t is.below))) legal;
              suspended = rw (third t) r.suspended;
              flags = rw (stays t 20 (λ e. omega arith) (omega arith)) r.flags;
              rest = λ k lo hi. stays t k (λ e. omega arith) hi ∙ r.rest k lo hi;
            });
        owner = λ _. rw (own_of t) (owned.below, type_of a ∙ owned.type);
        idle = λ _ z k lo hi. stays t k (λ e. omega arith) (omega arith) ∙ old.idle is.type (sym (third t) ∙ z) k lo hi;
        blank = λ _. old.blank (inl (omega arith));
      }

  step : Step b (rec L) (rec L') (frame M) (frame M) a
  step =
      record {
        each = λ q l.
            ⊎_elim (λ e. rw e (inr (inr refl, inr (own_of t), page)))
            (λ n. inl (record { words = wrote.others q n; memory = λ _ _. refl })) (same_or q t);
        alive = λ q l nz e. type_of a ∙ owned.type;
        self = λ _. self;
      }

  pub replaced : Accepted b M L'
  replaced =
      accepted ok refl wrote.size
      (step_kept step ok.rules
      (wrote_header ok wrote is.below (λ z. omega arith) (λ z. omega (arith, type_of t))
      (λ u. runs_kept ok.rules (λ q l _. (type_of q, own_of q, third q)))))
