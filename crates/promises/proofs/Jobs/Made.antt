-- What calls 2, 3 and 5 are for: a space with its first-level page, a thread, a spare page. Assumes nothing.
use Prim.Native.Nat.{ℕ, ◌<◌}
use mathlib.Core.Path.{◌≡◌, refl, sym, ap, ◌∙◌}
use mathlib.Core.List.{List}
use mathlib.Core.Logic.{⊎_elim, inl, inr}
use native.Mathlib.Omega.{arith}
use Rattle.words.proofs.Cases.{same_or}
use Rattle.machine.specs.declared.Machine.{Machine}
use Rattle.ledger.specs.Names.{free}
use Rattle.ledger.specs.Ledger.{rec}
use Rattle.accept.specs.Accept.{Accepted}
use Rattle.building.specs.Calls.{init_addr_space, init_thread, alloc_spare}
use Rattle.records.specs.Records.{arg}
use Rattle.calls.specs.Table.{calls, lookup}
use Rattle.kept.proofs.Facts.Bridge.{owner_space}
use Rattle.promises.specs.Jobs.{Founded, InitAddrSpaceIsFor, InitThreadIsFor, AllocSpareIsFor}
use Rattle.promises.proofs.Opened.{effect}
use Rattle.promises.proofs.Moves.{Founding}
use Rattle.promises.proofs.Moved.Building.{founding, making_thread, making_spare}
use Rattle.promises.proofs.Moved.Given.{made, is_new}

-- ---- call 2: of two free pages one becomes a space, the other its first-level page
founded : {b : Machine} {M L L' : List ℕ} {a f : ℕ} → Accepted b M L → Founding b L L' a f → Founded b M L' a f
founded {b} {L = L} {a = a} {f} ok x =
    record {
      is_space = record { below = x.a_below; type = x.a_new 0 (omega arith); own = x.a_new 1 (omega arith) };
      state = x.a_new 3 (omega arith);
      first = x.a_new 2 (omega arith);
      is_first = record { below = x.f_below; type = x.f_new 0 (omega arith); own = x.f_new 1 (omega arith) };
      zero = λ k l. (ok.rules.pages f x.f_below).blank (inl (omega (arith, x.f_free))) k (omega arith) l;
      nothing_else = λ q l used own.
          ⊎_elim inl
          (λ na.
          ⊎_elim inr
          (λ nf.
          let s = x.others q na nf in
          absurd (nobody's q l (λ z. used (s 0 (omega arith) ∙ z)) (sym (s 1 (omega arith)) ∙ own)))
          (same_or q f))
          (same_or q a);
    }
  where
    -- what was in use belonged to a space, and a was none
    nobody's : (q : ℕ) → q < b.pages → (rec L q 0 ≡ free → ⊥) → rec L q 1 ≡ a → ⊥
    nobody's q l used own = omega (arith, (owner_space ok q l used).type, ap (λ (y : ℕ). rec L y 0) own, x.a_free)

pub init_addr_space_is_for : InitAddrSpaceIsFor
unfolding lookup calls init_addr_space
init_addr_space_is_for b M L W ok did = let (z, e) = effect refl did refl in rw e (founded ok (founding (arg W 1) (arg W 2) ok z))

-- ---- calls 3 and 5
pub init_thread_is_for : InitThreadIsFor
unfolding lookup calls init_thread
init_thread_is_for b M L W ok did =
    let (z, e) = effect refl did refl in
    let x = made (making_thread (arg W 1) (arg W 2) (arg W 3) ok z).1 in
    rw e (record { is_thread = is_new x; enters = x.new 2 (omega arith); awake = x.new 3 (omega arith) })

pub alloc_spare_is_for : AllocSpareIsFor
unfolding lookup calls alloc_spare
alloc_spare_is_for b M L W ok did =
    let (z, e) = effect refl did refl in
    rw e (is_new (made (making_spare (arg W 1) (arg W 2) ok z)))
