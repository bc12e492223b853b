-- Lookups in the table of calls, as a `match` on the number makes them. Assumes nothing.
use Prim.Native.Nat.{ℕ}
use mathlib.Core.Path.{◌≡◌, refl, ap, ◌∙◌}
use mathlib.Core.Bool.{Bool, true, false}
use mathlib.Core.List.{List, [], ◌∷◌, ◌++◌}
use native.Mathlib.Omega.{arith}
use lib.Dec.{eqb}
use borrow.Author.Tests.{eq-eqb, ne_eqb, eqb-true}
use Rattle.words.specs.Words.{pick}
use Rattle.calls.specs.declared.call.Call.{Call}
use Rattle.calls.specs.declared.call.Call.TheVariants.{GetPhysPages, InitAddrSpace, InitThread, InitTable, AllocSpare, MapSecure, MapInsecure, Finalise, Enter, Resume, Stop, Remove, FreePages, GetRandom, Attest, Verify, SpareTable, MapData, UnmapData, Exit, Interrupt, Fault, Load, Store}
use Rattle.calls.specs.Table.{Row, no_row, the_row, calls, lookup}
use Rattle.calls.specs.Acted.{call_number, found}

-- ---- the first row is the one, or it is not
module _ {A : Type 0} {i : ℕ} (r : Row) (rs : List Row) (none : A) (some : Row → A) where
  pub hit : i ≡ r.number → found i (r ∷ rs) none some ≡ some r
  unfolding found lookup
  hit e = rw (eq-eqb i r.number e)

  pub miss : (i ≡ r.number → ⊥) → found i (r ∷ rs) none some ≡ found i rs none some
  unfolding found lookup
  miss n = rw (ne_eqb i r.number n)

-- the row that is found has the number that was looked for
pub number_is : (i : ℕ) (rs : List Row) {r : Row} → lookup i rs ≡ the_row r → i ≡ r.number
unfolding lookup
number_is i [] e = absurd (let z : ◌≡◌ {A = ℕ} 0 1 = cc in omega arith)
number_is i (s ∷ rs) {r} e = go (eqb i s.number) refl e (number_is i rs)
  where
    go : (t : Bool) → eqb i s.number ≡ t → pick t (the_row s) (lookup i rs) ≡ the_row r → (lookup i rs ≡ the_row r → i ≡ r.number)
        → i ≡ r.number
    go true q h later = let same : s ≡ r = cc in eqb-true i s.number q ∙ ap (λ (x : Row). x.number) same
    go false q h later = later h

-- ---- what is known of i where the arms with these rows' numbers are skipped, N being known before
abbrev pub Skipped : ℕ → Type 0 → List Row → Type 0
Skipped i N [] = N
Skipped i N (r ∷ rs) = Skipped i (N × (i ≡ r.number → ⊥)) rs

-- i is the number of none of these rows
abbrev Other : ℕ → List Row → Type 0
Other i [] = Unit
Other i (r ∷ rs) = (i ≡ r.number → ⊥) × Other i rs

others : (i : ℕ) (N : Type 0) (rs : List Row) → Skipped i N rs → N × Other i rs
others i N [] p = (p, tt)
others i N (r ∷ rs) p = let q = others i (N × (i ≡ r.number → ⊥)) rs p in (q.0.0, (q.0.1, q.1))

missed : (i : ℕ) (rs : List Row) → Other i rs → lookup i rs ≡ no_row
unfolding lookup
missed i [] o = refl
missed i (r ∷ rs) o = rw (ne_eqb i r.number o.0) (missed i rs o.1)

skip : {A : Type 0} (i : ℕ) (rs ss : List Row) (none : A) (some : Row → A) → Other i rs → found i (rs ++ ss) none some ≡ found i ss none some
skip i [] ss none some o = refl
skip i (r ∷ rs) ss none some o = miss r (rs ++ ss) none some o.0 ∙ skip i rs ss none some o.1

-- rows whose arms are skipped are not found
pub skipped : {A : Type 0} (i : ℕ) (rs ss : List Row) (none : A) (some : Row → A) → Skipped i Unit rs
    → found i (rs ++ ss) none some ≡ found i ss none some
skipped i rs ss none some p = skip i rs ss none some (others i Unit rs p).1

-- .. and where all are, there is none
pub none_left : (i : ℕ) (rs : List Row) → Skipped i Unit rs → lookup i rs ≡ no_row
none_left i rs p = missed i rs (others i Unit rs p).1

-- each call has its row
pub listed : (c : Call) → (r : Row) × (lookup (call_number c) calls ≡ the_row r)
unfolding calls lookup
listed GetPhysPages = (_, refl)
listed InitAddrSpace = (_, refl)
listed InitThread = (_, refl)
listed InitTable = (_, refl)
listed AllocSpare = (_, refl)
listed MapSecure = (_, refl)
listed MapInsecure = (_, refl)
listed Finalise = (_, refl)
listed Enter = (_, refl)
listed Resume = (_, refl)
listed Stop = (_, refl)
listed Remove = (_, refl)
listed FreePages = (_, refl)
listed GetRandom = (_, refl)
listed Attest = (_, refl)
listed Verify = (_, refl)
listed SpareTable = (_, refl)
listed MapData = (_, refl)
listed UnmapData = (_, refl)
listed Exit = (_, refl)
listed Interrupt = (_, refl)
listed Fault = (_, refl)
listed Load = (_, refl)
listed Store = (_, refl)
