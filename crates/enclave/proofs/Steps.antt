-- One law for each return of the code, from what its callees ensure to what the definition says. Assumes nothing.
use Prim.Native.Nat.{ℕ}
use mathlib.Core.Path.{◌≡◌, refl, sym, ◌∙◌}
use mathlib.Core.Bool.{true, false}
use mathlib.Core.List.{List, [], ◌∷◌}
use Rattle.words.specs.Words.{padded}
use Rattle.machine.specs.declared.Machine.{Machine}
use Rattle.ledger.specs.Names.{spare}
use Rattle.ledger.specs.Ledger.{anew}
use Rattle.walk.specs.Walk.{translate}
use Rattle.std.specs.Prelude.{Option, None}
use Rattle.answer.specs.Answer.{Out}
use Rattle.enclave.specs.Calls.{first_page, fault, load, store}
use Rattle.enclave.proofs.Laws.{load_no, store_no}

-- a spare page's record has no word 2
pub spare_short : (L : List ℕ) (p a : ℕ) → anew L p (spare ∷ a ∷ 0 ∷ []) ≡ anew L p (spare ∷ a ∷ [])
unfolding anew padded
spare_short L p a = refl

-- ---- loads and stores
module _ (b : Machine) (M L : List ℕ) (va : ℕ) {f : ℕ} {r : Option ℕ} (ef : f ≡ first_page L) where
  module _ (er : r ≡ translate M b.secure f va false) where
    pub load_fails : {o : Out} → r ≡ None → o ≡ fault M L → o ≡ load b M L va
    load_fails n e = e ∙ sym (load_no b M L va (cc))

  module _ (w : ℕ) (er : r ≡ translate M b.secure f va true) where
    pub store_fails : {o : Out} → r ≡ None → o ≡ fault M L → o ≡ store b M L va w
    store_fails n e = e ∙ sym (store_no b M L va w (cc))
