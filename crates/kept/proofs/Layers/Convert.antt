-- A spare or data page of a final space becomes another page of it: what calls 35 to 37 do to the ledger. Assumes nothing.
use Prim.Native.Nat.{ℕ, ◌<◌}
use mathlib.Core.Path.{◌≡◌, refl}
use mathlib.Core.List.{List, ◌∷◌}
use mathlib.Core.Logic.{inr}
use native.Mathlib.Omega.{arith}
use lib.ListN.{get_or}
use Rattle.words.specs.Words.{record_words}
use Rattle.machine.specs.declared.Machine.{Machine}
use Rattle.ledger.specs.Names.{space, thread, final}
use Rattle.ledger.specs.Ledger.{rec, anew}
use Rattle.ledger.proofs.Views.{anew_same}
use Rattle.accept.specs.Accept.{Accepted}
use Rattle.kept.proofs.Facts.Sums.{counted_high}
use Rattle.kept.proofs.Facts.Leaves.{apart}
use Rattle.kept.proofs.Layers.Turn.{Turns, runs_turn}
use Rattle.kept.proofs.Facts.Bridge.{record_in, is_space}
use Rattle.kept.proofs.Facts.Wrote.{Wrote, wrote_anew, wrote_header}
use Rattle.kept.proofs.Layers.Alloc.{Allocated}

module _ {b : Machine} {M L : List ℕ} (ok : Accepted b M L) {a p : ℕ} (al : a < b.pages) (type : rec L a 0 ≡ space) (now : rec L a 3 ≡ final)
    (pl : p < b.pages) (own : rec L p 1 ≡ a) (was : thread < rec L p 0) (t : ℕ) (vs : List ℕ) (high : thread < t) where
  abbrev L' : List ℕ
  L' = anew L p (t ∷ a ∷ vs)

  wrote : Wrote L L' p
  wrote = wrote_anew L p (t ∷ a ∷ vs)

  new : (k : ℕ) → k < record_words → rec L' p k ≡ get_or (t ∷ a ∷ vs) k 0
  new = anew_same L p (t ∷ a ∷ vs) (record_in ok p pl)

  space_same : (k : ℕ) → k < record_words → rec L' a k ≡ rec L a k
  space_same = wrote.others a (apart (rec L) type refl (λ z. omega arith))

  turns : Turns b (rec L) (rec L') a p
  turns =
      let e₀ = new 0 (omega arith) in
      let e₄ = space_same 4 (omega arith) in
      let c = counted_high (rec L p 0) (omega arith) in
      let c' = counted_high (rec L' p 0) (omega arith) in
      record {
        below = pl;
        was = inr own;
        now = inr (new 1 (omega arith));
        low = λ k l. space_same k (omega arith);
        count = omega arith;
        blocks = λ z. absurd (omega arith);
        room = λ _. space_same 5 (omega arith);
        high = λ k lo hi. space_same k hi;
        others = λ q l na np. wrote.others q np;
      }

  pub converted : Allocated b L L' a p (t ∷ a ∷ vs)
  converted =
      record {
        size = wrote.size;
        turns = turns;
        new = new;
        header =
            wrote_header ok wrote pl (λ z. omega arith) (λ z. omega (arith, new 0 (omega arith)))
            (λ u. runs_turn (is_space ok al type) turns ok.rules (λ z. omega arith) (λ z. omega arith));
      }
