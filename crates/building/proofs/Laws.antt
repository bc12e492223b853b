-- What each call's refusals say where none of them refuses. (Of Finalise `passes-building` says it.) Assumes nothing.
use Prim.Native.Nat.{ℕ, ◌+◌, ◌<◌}
use mathlib.Core.Path.{◌≡◌}
use mathlib.Core.Bool.{true, false}
use mathlib.Core.List.{List}
use Rattle.words.proofs.Codes.{or_none, passes, passes_not, in_range, is, is_not}
use Rattle.machine.specs.declared.Machine.{Machine}
use Rattle.machine.specs.Machine.{Insecure, insecure}
use Rattle.machine.proofs.Laws.{insecure_holds}
use Rattle.mapping.specs.Mapping.{executes, well_formed}
use Rattle.mapping.specs.Entry.{legal_entry}
use Rattle.ledger.specs.Names.{free, space, building, stopped}
use Rattle.ledger.specs.Ledger.{rec}
use Rattle.memory.specs.Memory.{frame}
use Rattle.walk.proofs.Laws.{Holds}
use Rattle.answer.proofs.Laws.{passes_addr, passes_index, passes_as, passes_pg, passes_building}
use Rattle.building.specs.Parts.{place_code}
use Rattle.building.specs.Calls.{init_addr_space_code, init_thread_code, init_table_code, alloc_spare_code, map_secure_code, map_insecure_code}

module _ (b : Machine) (L : List ℕ) where
  -- ---- 2 InitAddrSpace
  pub passes_init_addr_space : (a f : ℕ) → init_addr_space_code b L a f ≡ 0
      → (a < b.pages) × (f < b.pages) × (rec L a 0 ≡ free) × (rec L f 0 ≡ free) × (a ≡ f → ⊥)
  unfolding init_addr_space_code
  passes_init_addr_space a f e =
      let x = or_none e in
      let y = or_none x.1 in
      let z = or_none y.1 in
      let u = or_none z.1 in
      (in_range b.pages a 0 x.0, in_range b.pages f 0 y.0, is (rec L a 0) free 1 z.0, is (rec L f 0) free 1 u.0, is_not a f 1 u.1)

  -- ---- 3 InitThread
  pub passes_init_thread : (a t entry : ℕ) → init_thread_code b L a t entry ≡ 0
      → (a < b.pages) × (rec L a 0 ≡ space) × (rec L a 3 ≡ building) × (t < b.pages) × (rec L t 0 ≡ free) × (legal_entry entry ≡ true)
  unfolding init_thread_code
  passes_init_thread a t entry e =
      let x = or_none e in
      let y = or_none x.1 in
      let s = passes_building b L a x.0 in
      let p = passes_pg b L t y.0 in
      (s.0, s.1, s.2, p.0, p.1, passes_not (legal_entry entry) 22 y.1)

  -- ---- 5 AllocSpare
  pub passes_alloc_spare : (a p : ℕ) → alloc_spare_code b L a p ≡ 0
      → (a < b.pages) × (rec L a 0 ≡ space) × (rec L a 3 ≡ stopped → ⊥) × (p < b.pages) × (rec L p 0 ≡ free)
  unfolding alloc_spare_code
  passes_alloc_spare a p e =
      let x = or_none e in
      let y = or_none x.1 in
      let s = passes_as b L a x.0 in
      let q = passes_pg b L p y.1 in
      (s.0, s.1, is_not (rec L a 3) stopped 3 y.0, q.0, q.1)

-- ---- the calls that look at the tables too
module _ (b : Machine) (M L : List ℕ) where
  -- ---- 4 InitL2PTable
  pub passes_init_table : (a p i : ℕ) → init_table_code b M L a p i ≡ 0
      → (a < b.pages) × (rec L a 0 ≡ space) × (rec L a 3 ≡ building) × (p < b.pages) × (rec L p 0 ≡ free) × (i < 256) ×
      (frame M (b.secure + rec L a 2) i ≡ 0)
  unfolding init_table_code
  passes_init_table a p i e =
      let x = or_none e in
      let y = or_none x.1 in
      let s = passes_building b L a x.0 in
      let q = passes_pg b L p y.0 in
      let z = passes_index M b.secure (rec L a 2) i y.1 in
      (s.0, s.1, s.2, q.0, q.1, z.0, z.1)

  -- ---- 6 MapSecure and 7 MapInsecure
  pub passes_place : (f map g : ℕ) → place_code b M f map g ≡ 0 → Holds M b.secure f map 0 × Insecure b g
  unfolding place_code
  passes_place f map g e =
      let x = or_none e in
      (passes_addr M b.secure f map x.0, insecure_holds b g (passes_not (insecure b g) 8 x.1))

  pub passes_map_secure : (a p map g : ℕ) → map_secure_code b M L a p map g ≡ 0
      → (a < b.pages) × (rec L a 0 ≡ space) × (rec L a 3 ≡ building) × (p < b.pages) × (rec L p 0 ≡ free) × (well_formed map ≡ true) ×
      Holds M b.secure (rec L a 2) map 0 × Insecure b g
  unfolding map_secure_code place_code
  passes_map_secure a p map g e =
      let x = or_none e in
      let y = or_none x.1 in
      let z = or_none y.1 in
      let s = passes_building b L a x.0 in
      let q = passes_pg b L p y.0 in
      let u = passes_place (rec L a 2) map g z.1 in
      (s.0, s.1, s.2, q.0, q.1, passes_not (well_formed map) 5 z.0, u.0, u.1)

  pub passes_map_insecure : (a map g : ℕ) → map_insecure_code b M L a map g ≡ 0
      → (a < b.pages) × (rec L a 0 ≡ space) × (rec L a 3 ≡ building) × (well_formed map ≡ true) × (executes map ≡ false) ×
      Holds M b.secure (rec L a 2) map 0 × Insecure b g
  unfolding map_insecure_code place_code
  passes_map_insecure a map g e =
      let x = or_none e in
      let y = or_none x.1 in
      let z = or_none y.1 in
      let s = passes_building b L a x.0 in
      let u = passes_place (rec L a 2) map g z.1 in
      (s.0, s.1, s.2, passes_not (well_formed map) 5 y.0, passes (executes map) 5 z.0, u.0, u.1)
