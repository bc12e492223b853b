-- Remove: what leaving its owner's count does, by the page's type. Assumes nothing.
use Prim.Native.Nat.{ℕ}
use mathlib.Core.Path.{◌≡◌, sym, ◌∙◌}
use mathlib.Core.List.{List}
use borrow.Author.Tests.{eq-eqb, ne_eqb}
use Rattle.ledger.specs.Names.{space}
use Rattle.ledger.specs.Ledger.{rec, lose}
use Rattle.system.specs.Calls.{left}

module _ (L : List ℕ) (p : ℕ) {t : ℕ} (e : t ≡ rec L p 0) where
  pub left_space : t ≡ space → L ≡ left L p
  unfolding left
  left_space z = rw (eq-eqb (rec L p 0) space (sym e ∙ z))

  pub left_other : {v : ℕ} {L' : List ℕ} → (t ≡ space → ⊥) → v ≡ rec L p 1 → L' ≡ lose L v → L' ≡ left L p
  unfolding left
  left_other n o l = rw (ne_eqb (rec L p 0) space (λ z. n (e ∙ z))) (cc)
