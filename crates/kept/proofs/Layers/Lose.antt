-- A page that is no space leaves its owner and becomes free, where it is spare or its owner stopped: call 12. Assumes nothing.
use Prim.Native.Nat.{ℕ, ◌+◌, ◌<◌}
use mathlib.Core.Path.{◌≡◌, refl, ap, ◌∙◌}
use mathlib.Core.List.{List}
use mathlib.Core.Logic.{◌⊎◌, ⊎_elim, inl, inr}
use native.Mathlib.Omega.{arith}
use Rattle.words.specs.Words.{record_words}
use Rattle.words.proofs.Sums.{sum_ge}
use Rattle.machine.specs.declared.Machine.{Machine}
use Rattle.ledger.specs.Names.{running_word, free, space, spare, stopped}
use Rattle.ledger.specs.Ledger.{header, rec, vacate, lose}
use Rattle.ledger.proofs.Effects.{length-vacate, length-lose, lose_count, lose_other}
use Rattle.memory.specs.Memory.{wiped}
use Rattle.memory.proofs.Frames.{length-wiped}
use Rattle.accept.specs.Accept.{Is, tally, counted, measured, Accepted}
use Rattle.accept.proofs.Sums.{tally_at}
use Rattle.kept.proofs.Facts.Sums.{counted_high}
use Rattle.kept.proofs.Facts.Layouts.{layout_of}
use Rattle.kept.proofs.Facts.Leaves.{apart}
use Rattle.kept.proofs.Layers.Turn.{Turns, tables_plain, turn_kept}
use Rattle.kept.proofs.Facts.Bridge.{exact, record_in, page_in, owner_space, count_small, accepted}
use Rattle.kept.proofs.Facts.Wrote.{wrote_lose, wrote_exact}
use Rattle.kept.proofs.Layers.Vacate.{Vacated, vacated}

module _ {b : Machine} {M L : List ℕ} (ok : Accepted b M L) (nobody : header L running_word ≡ 0) {p : ℕ} (pl : p < b.pages)
    (used : space < rec L p 0) (may : (rec L p 0 ≡ spare) ⊎ (rec L (rec L p 1) 3 ≡ stopped)) where
  abbrev a : ℕ
  a = rec L p 1

  abbrev K : List ℕ
  K = lose L a

  owned : Is b (rec L) a space a
  owned = owner_space ok p pl (λ z. omega arith)

  a_not_p : a ≡ p → ⊥
  a_not_p = apart (rec L) owned.type refl (λ z. omega arith)

  lost : (q k : ℕ) → (q ≡ a → k ≡ 4 → ⊥) → k < record_words → rec K q k ≡ rec L q k
  lost q k n l = lose_other L a q k (λ e. n (omega arith) (omega arith))

  type_same : (q : ℕ) → rec K q 0 ≡ rec L q 0
  type_same q = lost q 0 (λ _ e. omega arith) (omega arith)

  -- a's count, which is not 0, falls by one
  falls : rec K a 4 + 1 ≡ rec L a 4
  falls =
      let al = owned.below in
      let type = owned.type in
      let one = tally_at counted (rec L) a p refl ∙ counted_high (rec L p 0) used in
      omega (
        arith,
        sum_ge b.pages p (tally counted (rec L) a) pl,
        (ok.rules.spaces a al type).count,
        count_small ok al type,
        lose_count L a (omega (arith, record_in ok a al)),
      )

  done : Vacated b M K p
  done =
      let type = owned.type in
      vacated ok nobody pl (wrote_exact (exact ok) (wrote_lose L a) owned.below (λ z. omega arith) (λ z. omega (arith, type_same a)))
      (λ z. omega (arith, type_same p)) (wrote_lose L a).head

  free_now : rec (vacate K p) p 0 ≡ free
  free_now = done.gone 0 (omega arith) (omega arith)

  turns : Turns b (rec L) (rec (vacate K p)) a p
  turns =
      let same : (k : ℕ) → (k ≡ 4 → ⊥) → k < record_words → rec (vacate K p) a k ≡ rec L a k
      = λ k n l. done.others a a_not_p k l ∙ lost a k (λ _. n) l in
      let e₄ = done.others a a_not_p 4 (omega arith) in
      let e₅ = same 5 (λ e. omega arith) (omega arith) in
      let m' : measured (rec (vacate K p) p 0) ≡ 0 = ap measured free_now in
      record {
        below = pl;
        was = inr refl;
        now = inl free_now;
        low = λ k l. same k (λ e. omega arith) (omega arith);
        count = omega (arith, falls, counted_high (rec L p 0) used, ap counted free_now);
        blocks = λ z. ⊎_elim (λ e. let m : measured (rec L p 0) ≡ 0 = ap measured e in omega arith) (λ e. absurd (omega arith)) may;
        room = λ _. e₅;
        high = λ k lo hi. same k (λ e. omega arith) hi;
        others = λ q l na np k kl. done.others q np k kl ∙ lost q k (λ e _. na e) kl;
      }

  pub lost_kept : Accepted b (wiped M (b.secure + p)) (vacate (lose L a) p)
  lost_kept =
      accepted ok (length-wiped M (b.secure + p) (page_in ok p pl)) (length-vacate K p ∙ length-lose L a)
      (turn_kept owned turns ok.rules (λ z. omega arith) (layout_of free_now (omega arith) (λ k lo hi. done.gone k (omega arith) hi))
      (λ z. absurd (omega (arith, free_now)))
      (λ _. done.blank)
      (λ q l n. inl (done.memory q n))
      (λ n.
      ⊎_elim
      (λ e.
      tables_plain owned turns (λ l. omega arith) (λ l. omega (arith, free_now)) (λ q l np. done.memory q np) ok.rules.pages
      ((ok.rules.spaces a owned.below owned.type).tables n))
      (λ e. absurd (n e)) may)
      done.head)
