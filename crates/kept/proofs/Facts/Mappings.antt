-- A well-formed mapping word is its index, slot and rights. Assumes nothing.
use Prim.Native.Nat.{ℕ, ◌+◌, ◌*◌, ◌/◌, ◌%◌, ◌^◌, ◌<◌}
use mathlib.Core.Path.{◌≡◌, refl, ap, ◌∙◌}
use mathlib.Core.Bool.{Bool, true, false, ◌&&◌}
use native.Mathlib.Omega.{arith}
use lib.Dec.{eqb, ltb}
use lib.Pow.{shr-shr}
use borrow.Author.Tests.{eqb-true, ltb-true}
use Rattle.mapping.specs.Mapping.{index_of, slot_of, rights_of, well_formed}
use Rattle.accept.specs.Accept.{mapping_of}

pub record Mapping (x : ℕ) : Type 0 where
  pub reads : x % 2 ≡ 1
  pub gap : x / 8 % 512 ≡ 0
  pub low : x < 2 ^ 30

both : (s t : Bool) → (s && t) ≡ true → (s ≡ true) × (t ≡ true)
both true t e = (refl, e)
both false t e = absurd (let z : ◌≡◌ {A = ℕ} 0 1 = cc in omega arith)

pub is_well_formed : {x : ℕ} → well_formed x ≡ true → Mapping x
unfolding well_formed
is_well_formed {x} e =
    let s = both (eqb (x % 2) 1) (eqb (x / 8 % 512) 0 && ltb x (2 ^ 30)) e in
    let t = both (eqb (x / 8 % 512) 0) (ltb x (2 ^ 30)) s.1 in
    record { reads = eqb-true (x % 2) 1 s.0; gap = eqb-true (x / 8 % 512) 0 t.0; low = ltb-true x (2 ^ 30) t.1 }

split : (q r : ℕ) → q / 1024 < 256 → q * 4096 + r ≡ q / 1024 % 256 * 4194304 + q % 1024 * 4096 + r
split q r l = omega arith

pub parts : {x : ℕ} → Mapping x → x ≡ mapping_of (index_of x) (slot_of x) (rights_of x)
parts {x} m =
    let q : x ≡ x / 4096 * 4096 + x % 8 = omega (arith, m.gap, shr-shr x 3 9) in
    let l : x / 4096 / 1024 < 256 = omega (arith, m.low) in
    q ∙ split (x / 4096) (x % 8) l ∙ ap (λ (i : ℕ). i % 256 * 4194304 + x / 4096 % 1024 * 4096 + x % 8) (shr-shr x 12 10)

pub rights_odd : {x : ℕ} → Mapping x → rights_of x % 2 ≡ 1
rights_odd {x} m = omega (arith, m.reads)

-- and such parts are those of the word that they make
pub parts_index : (i j r : ℕ) → i < 256 → j < 1024 → r < 8 → index_of (mapping_of i j r) ≡ i
parts_index i j r il jl rl = omega arith

pub parts_slot : (i j r : ℕ) → j < 1024 → r < 8 → slot_of (mapping_of i j r) ≡ j
parts_slot i j r jl rl = omega arith
