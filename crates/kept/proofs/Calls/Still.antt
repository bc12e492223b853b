-- Calls 1, 13 and 32 to 34 answer and leave memory and ledger as they are. Assumes nothing.
use Prim.Native.Nat.{ℕ}
use mathlib.Core.List.{List}
use Rattle.machine.specs.declared.Machine.{Machine}
use Rattle.accept.specs.Accept.{Accepted}
use Rattle.system.specs.Calls.{get_phys_pages, free_pages}
use Rattle.attesting.specs.Calls.{get_random, attest, verify}

module _ (b : Machine) (M L : List ℕ) where
  pub kept_get_phys_pages : Accepted b M L → Accepted b (get_phys_pages b M L).mem (get_phys_pages b M L).led
  unfolding get_phys_pages
  kept_get_phys_pages ok = ok

  pub kept_free_pages : Accepted b M L → Accepted b (free_pages b M L).mem (free_pages b M L).led
  unfolding free_pages
  kept_free_pages ok = ok

  pub kept_get_random : (w : ℕ) → Accepted b M L → Accepted b (get_random M L w).mem (get_random M L w).led
  unfolding get_random
  kept_get_random w ok = ok

  pub kept_attest : (text : List ℕ) → Accepted b M L → Accepted b (attest M L text).mem (attest M L text).led
  unfolding attest
  kept_attest text ok = ok

  pub kept_verify : (text measurement claim : List ℕ) → Accepted b M L
      → Accepted b (verify M L text measurement claim).mem (verify M L text measurement claim).led
  unfolding verify
  kept_verify text measurement claim ok = ok
