-- Calls 32-42 act for the running thread's owner, a final space. Assumes nothing.
use Prim.Native.Nat.{ℕ, ◌+◌, ◌<◌}
use mathlib.Core.Path.{◌≡◌}
use mathlib.Core.List.{List}
use native.Mathlib.Omega.{arith}
use Rattle.machine.specs.declared.Machine.{Machine}
use Rattle.ledger.specs.Names.{running_word, space, final}
use Rattle.ledger.specs.Ledger.{header, rec}
use Rattle.answer.specs.Answer.{running, owner}
use Rattle.accept.specs.Accept.{Runs, Accepted}
use Rattle.kept.proofs.Facts.Bridge.{owner_space}

module _ {b : Machine} {M L : List ℕ} (ok : Accepted b M L) (t : ℕ) (e : header L running_word ≡ t + 1) where
  pub runs : Runs b (rec L) (running L)
  runs = let same : running L ≡ t = omega arith in rw same (ok.rules.header.runs t e)

  pub acts : (owner L < b.pages) × (rec L (owner L) 0 ≡ space) × (rec L (owner L) 3 ≡ final)
  acts =
      let r = runs in
      let o = owner_space ok (running L) r.below (λ z. omega (arith, r.is_thread)) in
      (o.below, o.type, r.of_final)
