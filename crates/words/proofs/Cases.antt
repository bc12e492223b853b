-- Splits of cases. Assumes nothing.
use Prim.Native.Nat.{ℕ, ◌≤◌, ◌<◌}
use mathlib.Core.Path.{◌≡◌}
use mathlib.Core.Bool.{Bool, true, false}
use mathlib.Core.Logic.{◌⊎◌, ⊎_elim, inl, inr}
use native.Mathlib.Decide.{ℕ_discrete, dec_lt}
use native.Mathlib.Omega.{arith}
use Rattle.words.specs.Words.{pick}

pub lt_or_ge : (x y : ℕ) → (x < y) ⊎ (y ≤ x)
lt_or_ge x y = elim (dec_lt x y) [ yes l ↦ inl l | no n ↦ inr (omega arith) ]

pub same_or : (x y : ℕ) → (x ≡ y) ⊎ (x ≡ y → ⊥)
same_or x y = elim (ℕ_discrete x y) [ yes e ↦ inl e | no n ↦ inr n ]

-- two equations, or not both
pub both_or : {C : Type 0} (x y u v : ℕ) → (x ≡ y → u ≡ v → C) → ((x ≡ y → u ≡ v → ⊥) → C) → C
both_or x y u v here other = ⊎_elim (λ e. ⊎_elim (here e) (λ n. other (λ _. n)) (same_or u v)) (λ n. other (λ e _. n e)) (same_or x y)

pub pick_le : (t : Bool) (x y c : ℕ) → x ≤ c → y ≤ c → pick t x y ≤ c
pick_le true x y c l m = l
pick_le false x y c l m = m
