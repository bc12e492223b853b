-- What each call's refusals say where none of them refuses. (Of Stop `passes-as` says it.) Assumes nothing.
use Prim.Native.Nat.{ℕ, ◌<◌}
use mathlib.Core.Path.{◌≡◌, refl}
use mathlib.Core.Bool.{Bool, true, false, not}
use mathlib.Core.List.{List}
use mathlib.Core.Logic.{◌⊎◌, inl, inr}
use lib.Dec.{eqb}
use borrow.Author.Tests.{eqb-true, eqb-false}
use Rattle.words.specs.Words.{pick, when}
use Rattle.words.proofs.Codes.{or_none, in_range, is, is_not}
use Rattle.machine.specs.declared.Machine.{Machine}
use Rattle.ledger.specs.Names.{free, space, thread, spare, final, stopped}
use Rattle.ledger.specs.Ledger.{rec}
use Rattle.system.specs.Calls.{thread_code, enter_code, resume_code, remove_space_code, remove_other_code, remove_code}

module _ (b : Machine) (L : List ℕ) where
  -- ---- 9 Enter and 10 Resume
  pub passes_thread : (t : ℕ) → thread_code b L t ≡ 0 → (t < b.pages) × (rec L t 0 ≡ thread) × (rec L (rec L t 1) 3 ≡ final)
  unfolding thread_code
  passes_thread t e =
      let x = or_none e in
      let y = or_none x.1 in
      (in_range b.pages t 0 x.0, is (rec L t 0) thread 9 y.0, is (rec L (rec L t 1) 3) final 4 y.1)

  pub passes_enter : (t : ℕ) → enter_code b L t ≡ 0
      → (t < b.pages) × (rec L t 0 ≡ thread) × (rec L (rec L t 1) 3 ≡ final) × (rec L t 3 ≡ 0)
  unfolding enter_code
  passes_enter t e =
      let x = or_none e in
      let y = passes_thread t x.0 in
      (y.0, y.1, y.2, is (rec L t 3) 0 10 x.1)

  pub passes_resume : (t : ℕ) → resume_code b L t ≡ 0
      → (t < b.pages) × (rec L t 0 ≡ thread) × (rec L (rec L t 1) 3 ≡ final) × (rec L t 3 ≡ 0 → ⊥)
  unfolding resume_code
  passes_resume t e =
      let x = or_none e in
      let y = passes_thread t x.0 in
      (y.0, y.1, y.2, is_not (rec L t 3) 0 11 x.1)

  -- ---- 12 Remove: a space that is stopped and owns nothing; or another page, spare or of a stopped owner
  pub passes_remove : (p : ℕ) → remove_code b L p ≡ 0
      → (p < b.pages) × (rec L p 0 ≡ free → ⊥) ×
      (((rec L p 0 ≡ space) × (rec L p 3 ≡ stopped) × (rec L p 4 ≡ 0)) ⊎
      ((rec L p 0 ≡ space → ⊥) × ((rec L p 0 ≡ spare) ⊎ (rec L (rec L p 1) 3 ≡ stopped))))
  unfolding remove_code remove_space_code remove_other_code
  passes_remove p e =
      let x = or_none e in
      let y = or_none x.1 in
      (in_range b.pages p 0 x.0, is_not (rec L p 0) free 21 y.0, kind (eqb (rec L p 0) space) refl y.1)
    where
      other : (t : Bool) → eqb (rec L p 0) spare ≡ t → pick t 0 (when (not (eqb (rec L (rec L p 1) 3) stopped)) 13) ≡ 0
          → (rec L p 0 ≡ spare) ⊎ (rec L (rec L p 1) 3 ≡ stopped)
      other true q z = inl (eqb-true (rec L p 0) spare q)
      other false q z = inr (is (rec L (rec L p 1) 3) stopped 12 z)

      kind : (t : Bool) → eqb (rec L p 0) space ≡ t → pick t (remove_space_code L p) (remove_other_code L p) ≡ 0
          → ((rec L p 0 ≡ space) × (rec L p 3 ≡ stopped) × (rec L p 4 ≡ 0)) ⊎
          ((rec L p 0 ≡ space → ⊥) × ((rec L p 0 ≡ spare) ⊎ (rec L (rec L p 1) 3 ≡ stopped)))
      kind true q z =
          let y = or_none z in
          inl (eqb-true (rec L p 0) space q, is (rec L p 3) stopped 12 y.0, is (rec L p 4) 0 13 y.1)
      kind false q z = inr (eqb-false (rec L p 0) space q, other (eqb (rec L p 0) spare) refl z)
