-- Page p, nobody's or a's, becomes another page, nobody's or a's: what calls 3 to 6, 12 and 35 to 37 share. Assumes nothing.
use Prim.Native.Nat.{ℕ, ◌+◌, ◌≤◌, ◌<◌}
use mathlib.Core.Path.{◌≡◌, refl, sym, ap, ◌∙◌}
use mathlib.Core.Logic.{◌⊎◌, ⊎_elim, inl, inr}
use native.Mathlib.Omega.{arith}
use Rattle.words.specs.Words.{record_words, sum_below}
use Rattle.words.proofs.Cases.{same_or}
use Rattle.words.proofs.Sums.{sum_change}
use Rattle.machine.specs.declared.Machine.{Machine}
use Rattle.machine.specs.Machine.{frame_words}
use Rattle.ledger.specs.Names.{free, space, thread, building, stopped}
use Rattle.accept.specs.Accept.{Words, Zeros, SpaceRec, Layout, Blank, PageOk, Is, Tables, SpaceOk, tally, counted, measured, Runs, HeaderOk, Rules}
use Rattle.accept.proofs.Sums.{tally_at}
use Rattle.kept.proofs.Facts.Sums.{tally_none, tally_same}
use Rattle.kept.proofs.Facts.Layouts.{layout_of, layout_same}
use Rattle.kept.proofs.Facts.Leaves.{Table, Linked, apart, not_linked, is_moved}
use Rattle.kept.proofs.Layers.Frame.{Same, Of, Step, tables_same, step_kept, runs_kept}

pub record Turns (b : Machine) (w w' : Words) (a p : ℕ) : Type 0 where
  pub below : p < b.pages
  pub was : Of w a p
  pub now : Of w' a p
  -- a's counts change as p does; its hash, words 6 to 13, may be any
  pub low : (k : ℕ) → k < 4 → w' a k ≡ w a k
  pub count : w' a 4 + counted (w p 0) ≡ w a 4 + counted (w' p 0)
  pub blocks : w a 3 ≡ building → w' a 5 + measured (w p 0) ≡ w a 5 + measured (w' p 0)
  pub room : (w a 3 ≡ building → ⊥) → w' a 5 ≡ w a 5
  pub high : (k : ℕ) → 14 ≤ k → k < record_words → w' a k ≡ w a k
  pub others : (q : ℕ) → q < b.pages → (q ≡ a → ⊥) → (q ≡ p → ⊥) → (k : ℕ) → k < record_words → w' q k ≡ w q k

-- what a page that is nobody's or a's adds to a's sums
tally_of : (g : ℕ → ℕ) (w : Words) (a p : ℕ) → g free ≡ 0 → Of w a p → tally g w a p ≡ g (w p 0)
tally_of g w a p z o =
    ⊎_elim (λ e. tally_none g w a p (ap g e ∙ z) ∙ sym (ap g e ∙ z)) (λ e. tally_at g w a p e) o

module _ {b : Machine} {w w' : Words} {a p : ℕ} (is_space : Is b w a space a) (x : Turns b w w' a p) where
  -- no page but p changes any of its first four words
  pub low_same : (q : ℕ) → q < b.pages → (q ≡ p → ⊥) → (k : ℕ) → k < 4 → w' q k ≡ w q k
  low_same q l n k kl = ⊎_elim (λ e. rw e (x.low k kl)) (λ na. x.others q l na n k (omega arith)) (same_or q a)

  pub is_on : {t q : ℕ} → (q ≡ p → ⊥) → Is b w a t q → Is b w' a t q
  is_on {q = q} n i = is_moved i (low_same q i.below n 0 (omega arith)) (low_same q i.below n 1 (omega arith))

  pub is_back : {t q : ℕ} → (q ≡ p → ⊥) → Is b w' a t q → Is b w a t q
  is_back {q = q} n i =
      is_moved i (sym (low_same q i.below n 0 (omega arith))) (sym (low_same q i.below n 1 (omega arith)))

  -- neither before nor after is p a table or a data page, and no memory of those changes
  pub tables_plain : {m m' : Words} → (Linked (w p 0) → ⊥) → (Linked (w' p 0) → ⊥)
      → ((q : ℕ) → q < b.pages → (q ≡ p → ⊥) → (k : ℕ) → k < frame_words → m' (b.secure + q) k ≡ m (b.secure + q) k)
      → ((q : ℕ) → q < b.pages → PageOk b w m q) → Tables b w m a → Tables b w' m' a
  tables_plain {m} {m'} was now memory pages old =
      tables_same old pages (λ t q l i. same t q l i (not_linked was l i))
      (λ t q l i. let n = not_linked now l i in same t q l (is_back n i) n) (x.low 2 (omega arith))
    where
      same : (t q : ℕ) → Linked t → Is b w a t q → (q ≡ p → ⊥) → Same b w w' m m' q
      same t q l i n =
          record {
            words = x.others q i.below (apart w i.type is_space.type (λ z. omega arith)) n;
            memory = memory q i.below n;
          }

  -- of the memory of pages other than p, a table T of a's alone changes
  pub but_table : (m m' : Words) {t T j : ℕ} → Table t → Is b w a t T
      → ((q : ℕ) → q < b.pages → (q ≡ p → ⊥) → (k : ℕ) → k < frame_words → (q ≡ T → k ≡ j → ⊥) → m' (b.secure + q) k ≡ m (b.secure + q) k)
      → (q : ℕ) → q < b.pages → (q ≡ p → ⊥)
      → ((k : ℕ) → k < frame_words → m' (b.secure + q) k ≡ m (b.secure + q) k) ⊎ ((t : ℕ) × Table t × Is b w a t q)
  but_table m m' {t} {T} table i memory q l n =
      ⊎_elim (λ e. inr (t, table, rw e i)) (λ nT. inl (λ k kl. memory q l n k kl (λ e _. nT e))) (same_or q T)

  module _ {h : ℕ → ℕ} {m : Words} (ok : Rules b h w m) where
    -- the running thread is none of p
    pub runs_turn : {t : ℕ} → (w p 0 ≡ space → ⊥) → (w p 0 ≡ thread → ⊥) → Runs b w t → Runs b w' t
    runs_turn {t} ns nt =
        runs_kept ok
        (λ q l e.
        let n : q ≡ p → ⊥ = λ z. let y = ap (λ (y : ℕ). w y 0) z in ⊎_elim (λ e. ns (omega arith)) (λ e. nt (omega arith)) e in
        (low_same q l n 0 (omega arith), low_same q l n 1 (omega arith), low_same q l n 3 (omega arith)))

    old : SpaceOk b w m a
    old = ok.spaces a is_space.below is_space.type

    old_rec : SpaceRec b.pages a (w a)
    old_rec = (ok.pages a is_space.below).layout.is_space is_space.type

    still_space : w' a 0 ≡ space
    still_space = x.low 0 (omega arith) ∙ is_space.type

    sum_turns : (g : ℕ → ℕ) → g free ≡ 0
        → sum_below b.pages (tally g w a) + g (w' p 0) ≡ sum_below b.pages (tally g w' a) + g (w p 0)
    sum_turns g z =
        rw (← tally_of g w' a p z x.now, ← tally_of g w a p z x.was)
        (sum_change b.pages p (tally g w a) (tally g w' a) x.below
        (λ q l n. tally_same g w w' a q (low_same q l n 0 (omega arith)) (low_same q l n 1 (omega arith))))

    module _ {m' : Words} (none : w p 0 ≡ space → ⊥)
        -- what p is now
        (layout : Layout b.pages p (w' p))
        (calm : w' p 0 ≡ thread → Zeros (w' p) 3 21)
        (blank : Blank (w' p 0) → Zeros (m' (b.secure + p)) 0 frame_words)
        -- the memory of each other page is as it was, or the page is a table of a's
        (memory : (q : ℕ) → q < b.pages → (q ≡ p → ⊥)
        → ((k : ℕ) → k < frame_words → m' (b.secure + q) k ≡ m (b.secure + q) k) ⊎ ((t : ℕ) × Table t × Is b w a t q))
        (tables : (w a 3 ≡ stopped → ⊥) → Tables b w' m' a) where
      space_ok : SpaceOk b w' m' a
      space_ok =
          let e₃ = x.low 3 (omega arith) in
          record {
            count = omega (arith, sum_turns counted refl, old.count, x.count);
            blocks = λ z. omega (arith, sum_turns measured refl, old.blocks (sym e₃ ∙ z), x.blocks (sym e₃ ∙ z));
            calm = λ z q i.
                ⊎_elim
                (λ e. rw e (calm (sym (ap (λ (y : ℕ). w' y 0) e) ∙ i.type) 3 (omega arith) (omega arith)))
                (λ n. low_same q i.below n 3 (omega arith) ∙ old.calm (sym e₃ ∙ z) q (is_back n i))
                (same_or q p);
            room = λ nz. let n : w a 3 ≡ building → ⊥ = λ z. nz (e₃ ∙ z) in rw (x.room n) (old.room n);
            tables = λ nz. tables (λ z. nz (e₃ ∙ z));
          }

      page_a : PageOk b w' m' a
      page_a =
          record {
            layout = layout_of still_space (omega arith)
                (record {
                  itself = x.low 1 (omega arith) ∙ old_rec.itself;
                  first = rw (x.low 2 (omega arith)) old_rec.first;
                  state = rw (x.low 3 (omega arith)) old_rec.state;
                  rest = λ k lo hi. x.high k lo hi ∙ old_rec.rest k lo hi;
                });
            owner = λ nz. rw (x.low 1 (omega arith) ∙ old_rec.itself) (is_space.below, still_space);
            idle = λ t. absurd (omega (arith, still_space));
            blank = λ _ k lo hi.
                ⊎_elim (λ e. e k hi) (λ i. absurd (omega (arith, i.1, i.2.type, is_space.type)))
                (memory a is_space.below (apart w is_space.type refl (λ z. none (sym z))))
                ∙ (ok.pages a is_space.below).blank (inl (omega (arith, is_space.type))) k lo hi;
          }

      page_p : PageOk b w' m' p
      page_p =
          record {
            layout = layout;
            owner = λ nz. ⊎_elim (λ e. absurd (nz e)) (λ e. rw e (is_space.below, still_space)) x.now;
            idle = λ t _ k lo hi. calm t k (omega arith) hi;
            blank = blank;
          }

      -- a table of a's, whose memory may have changed
      page_table : (t q : ℕ) → Table t → (q ≡ p → ⊥) → Is b w a t q → PageOk b w' m' q
      page_table t q l np i =
          let s = x.others q i.below (apart w i.type is_space.type (λ z. omega arith)) np in
          let e₀ = s 0 (omega arith) ∙ i.type in
          record {
            layout = layout_same s (ok.pages q i.below).layout;
            owner = λ _. rw (s 1 (omega arith) ∙ i.own) (is_space.below, still_space);
            idle = λ z. absurd (omega arith);
            blank = λ z. absurd (⊎_elim (λ y. omega arith) (λ y. omega arith) z);
          }

      step : Step b w w' m m' a
      step =
          record {
            each = λ q l.
                ⊎_elim
                (λ e. rw e (inr (inr old_rec.itself, inr (x.low 1 (omega arith) ∙ old_rec.itself), page_a)))
                (λ na.
                ⊎_elim
                (λ e. rw e (inr (x.was, x.now, page_p)))
                (λ np.
                ⊎_elim
                (λ e. inl (record { words = x.others q l na np; memory = e }))
                (λ i. inr (inr i.2.own, inr (low_same q l np 1 (omega arith) ∙ i.2.own), page_table i.0 q i.1 np i.2))
                (memory q l np))
                (same_or q p))
                (same_or q a);
            alive = λ q l nz e. still_space;
            self = λ e. space_ok;
          }

      pub turn_kept : {h' : ℕ → ℕ} → HeaderOk b h' w' → Rules b h' w' m'
      turn_kept = step_kept step ok
