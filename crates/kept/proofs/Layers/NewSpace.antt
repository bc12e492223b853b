-- Two free pages become a building space and its first-level page: what call 2 does. Assumes nothing.
use Prim.Native.Nat.{ℕ, ◌+◌, ◌<◌}
use mathlib.Core.Path.{◌≡◌, refl, sym, ap, ◌∙◌}
use mathlib.Core.List.{List, [], ◌∷◌}
use mathlib.Core.Logic.{◌⊎◌, ⊎_elim, inl, inr}
use native.Mathlib.Omega.{arith}
use lib.ListN.{length, get_or}
use Rattle.words.specs.Words.{record_words, sum_below}
use Rattle.words.proofs.Cases.{same_or}
use Rattle.words.proofs.Sums.{sum_point}
use Rattle.machine.specs.declared.Machine.{Machine}
use Rattle.machine.specs.Machine.{frame_words}
use Rattle.ledger.specs.Names.{free, space, first_level, building}
use Rattle.accept.specs.Accept.{Words, PageOk, Is, Tables, SpaceOk, tally, counted, measured, HeaderOk, Rules}
use Rattle.accept.proofs.Sums.{tally_at, tally_off}
use Rattle.kept.proofs.Facts.Sums.{tally_none}
use Rattle.kept.proofs.Facts.Layouts.{rest_zero, layout_of}
use Rattle.kept.proofs.Layers.Frame.{Step, step_kept}

-- the two records: a building space with one page, and its first-level page
pub record Founds (b : Machine) (w w' : Words) (a f : ℕ) (hash : List ℕ) : Type 0 where
  pub space_words : (k : ℕ) → k < record_words → w' a k ≡ get_or (space ∷ a ∷ f ∷ building ∷ 1 ∷ 0 ∷ hash) k 0
  pub first_words : (k : ℕ) → k < record_words → w' f k ≡ get_or (first_level ∷ a ∷ []) k 0
  pub others : (q : ℕ) → (q ≡ a → ⊥) → (q ≡ f → ⊥) → (k : ℕ) → k < record_words → w' q k ≡ w q k

module _ {b : Machine} {h : ℕ → ℕ} {w w' m : Words} {a f : ℕ} {hash : List ℕ}
    (al : a < b.pages) (fl : f < b.pages) (af : w a 0 ≡ free) (ff : w f 0 ≡ free) (eight : length hash ≡ 8)
    (ok : Rules b h w m) (x : Founds b w w' a f hash) where
  -- a page of a's, after: a itself or f
  mine : (t q : ℕ) → (t ≡ free → ⊥) → Is b w' a t q → ((q ≡ a) × (t ≡ space)) ⊎ ((q ≡ f) × (t ≡ first_level))
  mine t q nz i =
      ⊎_elim (λ e. inl (e, sym i.type ∙ ap (λ (y : ℕ). w' y 0) e ∙ x.space_words 0 (omega arith)))
      (λ na.
      ⊎_elim (λ e. inr (e, sym i.type ∙ ap (λ (y : ℕ). w' y 0) e ∙ x.first_words 0 (omega arith)))
      (λ nf. absurd (not_mine na nf)) (same_or q f))
      (same_or q a)
    where
      -- nothing was owned by a, which was free
      not_mine : (q ≡ a → ⊥) → (q ≡ f → ⊥) → ⊥
      not_mine na nf =
          let e₀ = x.others q na nf 0 (omega arith) in
          let e₁ = x.others q na nf 1 (omega arith) in
          let o = ((ok.pages q i.below).owner (λ z. nz (sym i.type ∙ e₀ ∙ z))).1 in
          let o' : w a 0 ≡ space = rw (sym e₁ ∙ i.own) at o in
          omega arith

  no_others : {t q : ℕ} → (t ≡ free → ⊥) → (t ≡ space → ⊥) → (t ≡ first_level → ⊥) → Is b w' a t q → ⊥
  no_others {t} {q} n₀ n₁ n₃ i = ⊎_elim (λ y. n₁ y.1) (λ y. n₃ y.1) (mine t q n₀ i)

  -- a's sums are what f adds
  sum_new : (g : ℕ → ℕ) → g free ≡ 0 → g space ≡ 0 → sum_below b.pages (tally g w' a) ≡ g first_level
  sum_new g z₀ z₁ =
      sum_point b.pages f (tally g w' a) fl none ∙ tally_at g w' a f (x.first_words 1 (omega arith)) ∙ ap g (x.first_words 0 (omega arith))
    where
      none : (q : ℕ) → q < b.pages → (q ≡ f → ⊥) → tally g w' a q ≡ 0
      none q l nf =
          ⊎_elim (λ e. tally_none g w' a q (ap g e ∙ z₀))
          (λ nz.
          ⊎_elim
          (λ own.
          ⊎_elim (λ y. tally_none g w' a q (ap g y.1 ∙ z₁)) (λ y. absurd (nf y.0))
          (mine (w' q 0) q nz (record { below = l; type = refl; own = own })))
          (λ no. tally_off g w' a q no) (same_or (w' q 1) a))
          (same_or (w' q 0) free)

  blank_first : (k : ℕ) → k < frame_words → m (b.secure + w' a 2) k ≡ 0
  blank_first k l = rw (x.space_words 2 (omega arith)) ((ok.pages f fl).blank (inl (omega arith)) k (omega arith) l)

  tables : Tables b w' m a
  tables =
      record {
        first = rw (x.space_words 2 (omega arith)) (record { below = fl; type = x.first_words 0 (omega arith); own = x.first_words 1 (omega arith) });
        only = λ q i.
            ⊎_elim (λ y. absurd (omega (arith, y.1))) (λ y. y.0 ∙ sym (x.space_words 2 (omega arith))) (mine first_level q (λ z. omega arith) i);
        names = λ i T l e. absurd (omega (arith, blank_first i (omega arith)));
        named = λ T i. absurd (no_others (λ z. omega arith) (λ z. omega arith) (λ z. omega arith) i);
        rest = λ k lo hi. blank_first k hi;
        slots = λ T j i l. absurd (no_others (λ z. omega arith) (λ z. omega arith) (λ z. omega arith) i);
        stands = λ d i. absurd (no_others (λ z. omega arith) (λ z. omega arith) (λ z. omega arith) i);
      }

  space_ok : SpaceOk b w' m a
  space_ok =
      record {
        count = x.space_words 4 (omega arith) ∙ sym (sum_new counted refl refl);
        blocks = λ _. x.space_words 5 (omega arith) ∙ sym (sum_new measured refl refl);
        calm = λ _ t i. absurd (no_others (λ z. omega arith) (λ z. omega arith) (λ z. omega arith) i);
        room = λ nz. absurd (nz (x.space_words 3 (omega arith)));
        tables = λ _. tables;
      }

  page_a : PageOk b w' m a
  page_a =
      let e₀ = x.space_words 0 (omega arith) in
      record {
        layout =
            layout_of e₀ (omega arith)
            (record {
              itself = x.space_words 1 (omega arith);
              first = rw (x.space_words 2 (omega arith)) fl;
              state = omega (arith, x.space_words 3 (omega arith));
              rest = λ k lo hi. rest_zero (space ∷ a ∷ f ∷ building ∷ 1 ∷ 0 ∷ hash) x.space_words k (omega arith) hi;
            });
        owner = λ nz. rw (x.space_words 1 (omega arith)) (al, e₀);
        idle = λ t. absurd (omega arith);
        blank = λ _. (ok.pages a al).blank (inl (omega arith));
      }

  page_f : PageOk b w' m f
  page_f =
      let e₀ = x.first_words 0 (omega arith) in
      record {
        layout = layout_of e₀ (omega arith) (rest_zero (first_level ∷ a ∷ []) x.first_words);
        owner = λ nz. rw (x.first_words 1 (omega arith)) (al, x.space_words 0 (omega arith));
        idle = λ t. absurd (omega arith);
        blank = λ _. (ok.pages f fl).blank (inl (omega arith));
      }

  step : Step b w w' m m a
  step =
      record {
        each = λ q l.
            ⊎_elim (λ e. rw e (inr (inl af, inr (x.space_words 1 (omega arith)), page_a)))
            (λ na.
            ⊎_elim (λ e. rw e (inr (inl ff, inr (x.first_words 1 (omega arith)), page_f)))
            (λ nf. inl (record { words = x.others q na nf; memory = λ k kl. refl })) (same_or q f))
            (same_or q a);
        alive = λ q l nz e. x.space_words 0 (omega arith);
        self = λ e. space_ok;
      }

  pub open_kept : {h' : ℕ → ℕ} → HeaderOk b h' w' → Rules b h' w' m
  open_kept = step_kept step ok
