-- A page in use becomes free and its memory zero, while nobody runs: what call 12 does. Assumes nothing.
use Prim.Native.Nat.{ℕ, ◌+◌, ◌*◌, ◌<◌}
use mathlib.Core.Path.{◌≡◌, ◌∙◌}
use mathlib.Core.List.{List}
use native.Mathlib.Omega.{arith}
use Rattle.words.specs.Words.{record_words}
use Rattle.machine.specs.declared.Machine.{Machine}
use Rattle.machine.specs.Machine.{frame_words, header_words, map_words}
use Rattle.ledger.specs.Names.{running_word, free}
use Rattle.ledger.specs.Ledger.{header, rec, vacate}
use Rattle.ledger.proofs.Effects.{vacate_header, vacate_same, vacate_other}
use Rattle.memory.specs.Memory.{frame, wiped}
use Rattle.memory.proofs.Frames.{wiped_same, wiped_other}
use Rattle.accept.specs.Accept.{Zeros, HeaderOk, Accepted}
use Rattle.kept.proofs.Facts.Exact.{Exact, vacate_exact}
use Rattle.kept.proofs.Facts.Bridge.{page_in, header_by}

pub record Vacated (b : Machine) (M K : List ℕ) (p : ℕ) : Type 0 where
  pub gone : Zeros (rec (vacate K p) p) 0 record_words
  pub others : (q : ℕ) → (q ≡ p → ⊥) → (k : ℕ) → k < record_words → rec (vacate K p) q k ≡ rec K q k
  pub head : HeaderOk b (header (vacate K p)) (rec (vacate K p))
  pub blank : Zeros (frame (wiped M (b.secure + p)) (b.secure + p)) 0 frame_words
  pub memory : (q : ℕ) → (q ≡ p → ⊥) → (k : ℕ) → k < frame_words → frame (wiped M (b.secure + p)) (b.secure + q) k ≡ frame M (b.secure + q) k

-- K is the ledger before, with the header of the accepted L
pub vacated : {b : Machine} {M L K : List ℕ} {p : ℕ} → Accepted b M L → header L running_word ≡ 0 → p < b.pages → Exact b.pages K
    → (rec K p 0 ≡ free → ⊥) → ((k : ℕ) → k < header_words → header K k ≡ header L k) → Vacated b M K p
vacated {b} {M} {L} {K} {p} ok nobody pl ex used same =
    let below : p < 32 * map_words = omega (arith, ex.few) in
    let fits = page_in ok p pl in
    record {
      gone = λ k lo hi. vacate_same K p below (omega (arith, ex.size)) k hi;
      others = λ q n k l. vacate_other K p below q k n l;
      head =
          header_by ok (vacate_exact ex p pl used) (λ k lo hi. vacate_header K p k hi (λ e. omega arith) ∙ same k hi)
          (λ t e. absurd (omega (arith, vacate_header K p 0 (omega arith) (λ e. omega arith) ∙ same 0 (omega arith) ∙ nobody)));
      blank = λ k lo hi. wiped_same M (b.secure + p) fits k hi;
      memory = λ q n k l. wiped_other M (b.secure + p) fits (b.secure + q) k (λ e. n (omega arith)) l;
    }
