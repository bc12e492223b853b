-- The machine numbers' rules taken together, and the test of insecure frames. Assumes nothing.
use Prim.Native.Nat.{ℕ, ◌+◌, ◌≤◌, ◌<◌}
use mathlib.Core.Path.{◌≡◌, refl, sym, ◌∙◌}
use mathlib.Core.Bool.{Bool, true, false, not, ◌&&◌, true≢false}
use mathlib.Core.Logic.{◌⊎◌, ⊎_elim, inl, inr}
use native.Mathlib.Omega.{arith}
use native.Mathlib.Decide.{dec_lt}
use borrow.Author.Tests.{not-true, ltb-true, ltb-false, lt-ltb, le-ltb, le-leb, lt-leb}
use Rattle.machine.specs.declared.Machine.{Machine}
use Rattle.machine.specs.Machine.{most_frames, most_pages, Fits, Insecure, among, insecure}

pub fitting : (b : Machine) → 1 ≤ b.frames → b.frames ≤ most_frames → 1 ≤ b.pages → b.pages ≤ most_pages → 1 ≤ b.monitors
    → b.secure + b.pages ≤ b.frames → b.monitor + b.monitors ≤ b.frames
    → (b.secure + b.pages ≤ b.monitor) ⊎ (b.monitor + b.monitors ≤ b.secure) → Fits b
fitting b f F n N k s m x =
    record {
      frames_low = f;
      frames_high = F;
      pages_low = n;
      pages_high = N;
      monitors_low = k;
      secure_below = s;
      monitor_below = m;
      apart = x;
    }

-- ---- the test of insecure frames and the demand
module _ (a c f : ℕ) where
  outside : not (among a c f) ≡ true → (f < a) ⊎ (a + c ≤ f)
  outside e = go (dec_lt f a)
    where
      go : Dec (f < a) → (f < a) ⊎ (a + c ≤ f)
      go (yes l) = inl l
      go (no l) = inr (ltb-false f (a + c) (sym (rw (le-leb a f (omega arith))) ∙ not-true (among a c f) e))

  apart : (f < a) ⊎ (a + c ≤ f) → not (among a c f) ≡ true
  apart = ⊎_elim (λ l. simp (lt-leb a f l)) (λ l. simp (le-leb a f (omega arith), le-ltb f (a + c) l))

all : {p q r : Bool} → (p && (q && r)) ≡ true → (p ≡ true) × (q ≡ true) × (r ≡ true)
all {p = true} {q = true} e = (refl, refl, e)
all {p = true} {q = false} e = absurd (true≢false (sym e))
all {p = false} e = absurd (true≢false (sym e))

module _ (b : Machine) (f : ℕ) where
  pub insecure_holds : insecure b f ≡ true → Insecure b f
  unfolding insecure
  insecure_holds e =
      let x = all e in
      record {
        below = ltb-true f b.frames x.0;
        not_secure = outside b.secure b.pages f x.1;
        not_monitor = outside b.monitor b.monitors f x.2;
      }

  pub holds_insecure : Insecure b f → insecure b f ≡ true
  unfolding insecure
  holds_insecure i =
      simp (lt-ltb f b.frames i.below, apart b.secure b.pages f i.not_secure, apart b.monitor b.monitors f i.not_monitor)
