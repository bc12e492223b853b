-- A record's layout: from the part for its type, and from equal words. Assumes nothing.
use Prim.Native.Nat.{ℕ, zero, suc, ◌+◌, ◌<◌}
use mathlib.Core.Path.{◌≡◌, sym, subst, ◌∙◌}
use mathlib.Core.Bool.{true}
use mathlib.Core.List.{List}
use native.Mathlib.Omega.{arith}
use lib.ListN.{length, get_or, get_or-eq_default}
use Rattle.words.specs.Words.{record_words}
use Rattle.machine.specs.declared.Machine.{Machine}
use Rattle.machine.specs.Machine.{frame_words}
use Rattle.mapping.specs.Mapping.{well_formed}
use Rattle.ledger.specs.Names.{free, space, thread, first_level, second_level, data_page, spare}
use Rattle.accept.specs.Accept.{Words, Zeros, SpaceRec, ThreadRec, Layout, PageOk}

-- the words that a new record does not name are zero
pub rest_zero : {r : ℕ → ℕ} (vs : List ℕ) → ((k : ℕ) → k < record_words → r k ≡ get_or vs k 0) → Zeros r (length vs) record_words
rest_zero vs new k lo hi = new k hi ∙ get_or-eq_default vs 0 lo

-- ---- the words of a record of type t
abbrev pub Part : ℕ → ℕ → (ℕ → ℕ) → ℕ → Type 0
Part n p r zero = Zeros r 1 32
Part n p r (suc zero) = SpaceRec n p r
Part n p r (suc (suc zero)) = ThreadRec r
Part n p r (suc (suc (suc zero))) = Zeros r 2 32
Part n p r (suc (suc (suc (suc zero)))) = (r 2 < 256) × Zeros r 3 32
Part n p r (suc (suc (suc (suc (suc zero))))) = (well_formed (r 2) ≡ true) × Zeros r 3 32
Part n p r (suc (suc (suc (suc (suc (suc t)))))) = Zeros r 2 32

pub layout_of : {n p t : ℕ} {r : ℕ → ℕ} → r 0 ≡ t → t < 7 → Part n p r t → Layout n p r
layout_of {n} {p} {r = r} e l x =
    record {
      known = omega arith;
      is_free = at free;
      is_space = at space;
      is_thread = at thread;
      is_first = at first_level;
      is_second = at second_level;
      is_data = at data_page;
      is_spare = at spare;
    }
  where
    at : (u : ℕ) → r 0 ≡ u → Part n p r u
    at u z = subst (Part n p r) (sym e ∙ z) x

-- a page whose record and memory are zero is a free page
pub free_page : {b : Machine} {w m : Words} {p : ℕ} → Zeros (w p) 0 record_words → Zeros (m (b.secure + p)) 0 frame_words → PageOk b w m p
free_page r z =
    let e = r 0 (omega arith) (omega arith) in
    record {
      layout = layout_of e (omega arith) (λ k lo hi. r k (omega arith) hi);
      owner = λ used. absurd (used e);
      idle = λ t. absurd (omega arith);
      blank = λ _. z;
    }

-- ---- a layout goes by the record's words below 32
pub zeros_same : {r r' : ℕ → ℕ} {lo hi : ℕ} → ((k : ℕ) → k < hi → r' k ≡ r k) → Zeros r lo hi → Zeros r' lo hi
zeros_same e z k l u = e k u ∙ z k l u

thread_same : {r r' : ℕ → ℕ} → ((k : ℕ) → k < 32 → r' k ≡ r k) → ThreadRec r → ThreadRec r'
thread_same e s =
    record {
      entry = rw (e 2 (omega arith)) s.entry;
      suspended = rw (e 3 (omega arith)) s.suspended;
      flags = rw (e 20 (omega arith)) s.flags;
      rest = zeros_same e s.rest;
    }

module _ {n p : ℕ} {r r' : ℕ → ℕ} (e : (k : ℕ) → k < 32 → r' k ≡ r k) where
  space_same : SpaceRec n p r → SpaceRec n p r'
  space_same s =
      record {
        itself = e 1 (omega arith) ∙ s.itself;
        first = rw (e 2 (omega arith)) s.first;
        state = rw (e 3 (omega arith)) s.state;
        rest = zeros_same e s.rest;
      }

  pub layout_same : Layout n p r → Layout n p r'
  layout_same s =
      let e₀ = sym (e 0 (omega arith)) in
      let e₂ = e 2 (omega arith) in
      record {
        known = omega (arith, s.known);
        is_free = λ t. zeros_same e (s.is_free (e₀ ∙ t));
        is_space = λ t. space_same (s.is_space (e₀ ∙ t));
        is_thread = λ t. thread_same e (s.is_thread (e₀ ∙ t));
        is_first = λ t. zeros_same e (s.is_first (e₀ ∙ t));
        is_second = λ t. let x = s.is_second (e₀ ∙ t) in (rw e₂ x.0, zeros_same e x.1);
        is_data = λ t. let x = s.is_data (e₀ ∙ t) in (rw e₂ x.0, zeros_same e x.1);
        is_spare = λ t. zeros_same e (s.is_spare (e₀ ∙ t));
      }
