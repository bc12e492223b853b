-- What a call that acts for one space leaves as it was, and that the rules then hold of every page and space. Assumes nothing.
use Prim.Native.Nat.{ℕ, ◌+◌, ◌<◌}
use mathlib.Core.Path.{◌≡◌, refl, sym, ap, ◌∙◌}
use mathlib.Core.Logic.{◌⊎◌, ⊎_elim, inl, inr}
use native.Mathlib.Omega.{arith}
use Rattle.words.specs.Words.{record_words, sum_below}
use Rattle.words.proofs.Sums.{sum_ext}
use Rattle.words.proofs.Cases.{same_or}
use Rattle.machine.specs.declared.Machine.{Machine}
use Rattle.machine.specs.Machine.{frame_words}
use Rattle.mapping.specs.Mapping.{slot_of}
use Rattle.ledger.specs.Names.{free, space, thread, first_level, second_level, data_page}
use Rattle.accept.specs.Accept.{Words, PageOk, Is, Tables, SpaceOk, tally, counted, measured, Runs, HeaderOk, Rules}
use Rattle.accept.proofs.Sums.{tally_off}
use Rattle.kept.proofs.Facts.Sums.{tally_same, tally_none}
use Rattle.kept.proofs.Facts.Layouts.{layout_same, zeros_same}
use Rattle.kept.proofs.Facts.Leaves.{Linked, is_moved, slot_moved, stands_moved, leaves}

-- page q has the same record and the same memory
pub record Same (b : Machine) (w w' m m' : Words) (q : ℕ) : Type 0 where
  pub words : (k : ℕ) → k < record_words → w' q k ≡ w q k
  pub memory : (k : ℕ) → k < frame_words → m' (b.secure + q) k ≡ m (b.secure + q) k

is_same : {b : Machine} {w w' m m' : Words} {a t q : ℕ} → Same b w w' m m' q → Is b w a t q → Is b w' a t q
is_same s i = is_moved i (s.words 0 (omega arith)) (s.words 1 (omega arith))

is_was : {b : Machine} {w w' m m' : Words} {a t q : ℕ} → Same b w w' m m' q → Is b w' a t q → Is b w a t q
is_was s i = is_moved i (sym (s.words 0 (omega arith))) (sym (s.words 1 (omega arith)))

-- ---- the tables of a space go by its word 2 and by its tables and data pages
pub tables_same : {b : Machine} {w w' m m' : Words} {a : ℕ} → Tables b w m a
    → ((p : ℕ) → p < b.pages → PageOk b w m p)
    → ((t q : ℕ) → Linked t → Is b w a t q → Same b w w' m m' q)
    → ((t q : ℕ) → Linked t → Is b w' a t q → Same b w w' m m' q)
    → w' a 2 ≡ w a 2
    → Tables b w' m' a
tables_same {b} {w} {w'} {m} {m'} {a} old pages on back link =
    leaves old pages
    (λ t q l i k kl. (on t q (omega arith) i).words k (omega arith))
    (λ t q l i. is_was (back t q (omega arith) i) i)
    link
    (on first_level (w a 2) (omega arith) old.first).memory
    (λ T j i l.
    rw ((on second_level T (omega arith) i).memory j l)
    (slot_moved (old.slots T j i l)
    (λ d r x e y. let s = on data_page d (omega arith) x in (is_same s x, s.words 2 (omega arith)))))
    (λ d i.
    let s = back data_page d (omega arith) i in
    let o = old.stands d (is_was s i) in
    let T = on second_level o.table (omega arith) o.is_table in
    stands_moved o (s.words 2 (omega arith)) (is_same T o.is_table) (T.words 2 (omega arith)) (T.memory (slot_of (w d 2)) (omega arith)))

-- ---- a call that acts for space a
-- page q is nobody's, or a's
abbrev pub Of : Words → ℕ → ℕ → Type 0
Of w a q = (w q 0 ≡ free) ⊎ (w q 1 ≡ a)

pub record Step (b : Machine) (w w' m m' : Words) (a : ℕ) : Type 0 where
  -- each page is as it was, or was and is nobody's or a's, and meets its rules
  pub each : (q : ℕ) → q < b.pages → Same b w w' m m' q ⊎ (Of w a q × Of w' a q × PageOk b w' m' q)
  -- as long as it owns a page, a is a space
  pub alive : (q : ℕ) → q < b.pages → (w' q 0 ≡ free → ⊥) → w' q 1 ≡ a → w' a 0 ≡ space
  pub self : w' a 0 ≡ space → SpaceOk b w' m' a

module _ {b : Machine} {h : ℕ → ℕ} {w w' m m' : Words} {a : ℕ} (step : Step b w w' m m' a) (ok : Rules b h w m) where
  -- a page in use of another owner is as it was
  not_a : {x t q : ℕ} {v : Words} → (x ≡ a → ⊥) → (t ≡ free → ⊥) → Is b v x t q → Of v a q → ⊥
  not_a ne nz i o = ⊎_elim (λ z. nz (sym i.type ∙ z)) (λ z. ne (sym i.own ∙ z)) o

  kept : (x t q : ℕ) → (x ≡ a → ⊥) → (t ≡ free → ⊥) → Is b w x t q → Same b w w' m m' q
  kept x t q ne nz i = ⊎_elim (λ s. s) (λ o. absurd (not_a ne nz i o.0)) (step.each q i.below)

  kept_back : (x t q : ℕ) → (x ≡ a → ⊥) → (t ≡ free → ⊥) → Is b w' x t q → Same b w w' m m' q
  kept_back x t q ne nz i = ⊎_elim (λ s. s) (λ o. absurd (not_a ne nz i o.1)) (step.each q i.below)

  sum_kept : (g : ℕ → ℕ) (x : ℕ) → g free ≡ 0 → (x ≡ a → ⊥) → sum_below b.pages (tally g w x) ≡ sum_below b.pages (tally g w' x)
  sum_kept g x z ne = sum_ext b.pages (tally g w x) (tally g w' x) (λ q l. at q (step.each q l))
    where
      none : (v : Words) (q : ℕ) → Of v a q → tally g v x q ≡ 0
      none v q o = ⊎_elim (λ e. tally_none g v x q (ap g e ∙ z)) (λ e. tally_off g v x q (λ e'. ne (sym e' ∙ e))) o

      at : (q : ℕ) → Same b w w' m m' q ⊎ (Of w a q × Of w' a q × PageOk b w' m' q) → tally g w x q ≡ tally g w' x q
      at q (inl s) = tally_same g w w' x q (s.words 0 (omega arith)) (s.words 1 (omega arith))
      at q (inr o) = none w q o.0 ∙ sym (none w' q o.1)

  owner_kept : (o : ℕ) → o < b.pages → w o 0 ≡ space → (o ≡ a → w' a 0 ≡ space) → w' o 0 ≡ space
  owner_kept o l e f =
      ⊎_elim (λ y. rw y (f y))
      (λ ne. (kept o space o ne (λ z. omega arith) (record { below = l; type = e; own = ((ok.pages o l).layout.is_space e).itself })).words 0 (omega arith) ∙ e)
      (same_or o a)

  page_kept : (q : ℕ) → q < b.pages → Same b w w' m m' q → PageOk b w' m' q
  page_kept q l s =
      let old = ok.pages q l in
      let e₀ = s.words 0 (omega arith) in
      let e₁ = s.words 1 (omega arith) in
      record {
        layout = layout_same s.words old.layout;
        owner = λ nz.
            let o = old.owner (λ z. nz (e₀ ∙ z)) in
            rw e₁ (o.0, owner_kept (w q 1) o.0 o.1 (λ y. step.alive q l nz (e₁ ∙ y)));
        idle = λ t z. zeros_same (λ k u. s.words k (omega arith)) (old.idle (sym e₀ ∙ t) (sym (s.words 3 (omega arith)) ∙ z));
        blank = λ t. zeros_same s.memory (old.blank (rw e₀ at t));
      }

  pages_kept : (q : ℕ) → q < b.pages → PageOk b w' m' q
  pages_kept q l = ⊎_elim (λ s. page_kept q l s) (λ o. o.2) (step.each q l)

  other_kept : (x : ℕ) → x < b.pages → w' x 0 ≡ space → (x ≡ a → ⊥) → SpaceOk b w' m' x
  other_kept x l e' ne =
      let s = kept_back x space x ne (λ z. omega arith) (record { below = l; type = e'; own = ((pages_kept x l).layout.is_space e').itself }) in
      let e₃ = s.words 3 (omega arith) in
      let e₅ = s.words 5 (omega arith) in
      let old = ok.spaces x l (sym (s.words 0 (omega arith)) ∙ e') in
      record {
        count = s.words 4 (omega arith) ∙ old.count ∙ sum_kept counted x refl ne;
        blocks = λ z. e₅ ∙ old.blocks (sym e₃ ∙ z) ∙ sum_kept measured x refl ne;
        calm = λ z t i.
            let st = kept_back x thread t ne (λ z. omega arith) i in
            st.words 3 (omega arith) ∙ old.calm (sym e₃ ∙ z) t (is_was st i);
        room = λ nz. rw e₅ (old.room (λ z. nz (e₃ ∙ z)));
        tables = λ nz.
            tables_same (old.tables (λ z. nz (e₃ ∙ z))) ok.pages
            (λ t q k i. kept x t q ne (λ z. omega arith) i)
            (λ t q k i. kept_back x t q ne (λ z. omega arith) i)
            (s.words 2 (omega arith));
      }

  -- with its header, what the call leaves meets the rules
  pub step_kept : {h' : ℕ → ℕ} → HeaderOk b h' w' → Rules b h' w' m'
  step_kept header =
      record {
        header = header;
        pages = pages_kept;
        spaces = λ x l e. ⊎_elim (λ y. rw y (step.self (rw y at e))) (λ ne. other_kept x l e ne) (same_or x a);
      }

-- ---- the running thread stays one where threads and spaces keep words 0, 1 and 3
pub runs_kept : {b : Machine} {h : ℕ → ℕ} {w w' m : Words} {t : ℕ} → Rules b h w m
    → ((q : ℕ) → q < b.pages → (w q 0 ≡ space) ⊎ (w q 0 ≡ thread) → (w' q 0 ≡ w q 0) × (w' q 1 ≡ w q 1) × (w' q 3 ≡ w q 3))
    → Runs b w t → Runs b w' t
runs_kept {w = w} {t = t} ok same r =
    let s = same t r.below (inr r.is_thread) in
    let o = (ok.pages t r.below).owner (λ z. omega (arith, r.is_thread)) in
    let s' = same (w t 1) o.0 (inl o.1) in
    record { below = r.below; is_thread = s.0 ∙ r.is_thread; awake = s.2 ∙ r.awake; of_final = rw s.1 (s'.2 ∙ r.of_final) }
