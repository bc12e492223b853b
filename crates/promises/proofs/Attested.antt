-- Attest answers an HMAC, Verify knows it, and the key stays. Assumes nothing.
use Prim.Native.Nat.{ℕ}
use mathlib.Core.Path.{◌≡◌, refl, sym, ap, ap₂, ◌∙◌}
use mathlib.Core.Bool.{Bool, true, false, true≢false}
use mathlib.Core.List.{List, [], ◌∷◌, ◌++◌}
use native.Mathlib.Omega.{arith}
use lib.Dec.{eqb}
use lib.ListN.{drop}
use borrow.Author.Tests.{eqb-true, eq-eqb}
use Rattle.words.specs.Words.{pick}
use Rattle.words.proofs.Zero.{both}
use Rattle.machine.specs.declared.Machine.{Machine}
use Rattle.sha256.specs.Hmac.{hmac}
use Rattle.sha256.proofs.Laws.{hmac_length}
use Rattle.ledger.specs.Ledger.{header, key, hash, eight}
use Rattle.ledger.proofs.Effects.{eight_same}
use Rattle.answer.specs.Answer.{Out, owner}
use Rattle.attesting.specs.Calls.{mac, attest, same_words, verify}
use Rattle.records.specs.Records.{args}
use Rattle.calls.specs.Table.{calls, lookup}
use Rattle.batch.specs.Batch.{obey}
use Rattle.batch.proofs.Obeyed.{parts}
use Rattle.promises.specs.Kept.{History.begin, History.called, History.outside}
use Rattle.promises.specs.Attested.{AttestIsHmac, VerifyIsHmac, KeyStays, AttestedIsVerified}
use Rattle.promises.proofs.Read.{from_same}
use Rattle.promises.proofs.Kept.{history_keeps}
use Rattle.promises.proofs.Moves.{Head, Moves}
use Rattle.promises.proofs.Moved.{moves}
use Rattle.promises.proofs.Moved.Steps.{head_same}
use Rattle.promises.proofs.Opened.{opened, runs_for}

-- ---- Attest
mac_is : (L m text : List ℕ) → mac L m text ≡ hmac (key L) (m ++ text)
unfolding mac
mac_is L m text = eight_same (hmac (key L) (m ++ text)) (hmac_length (key L) (m ++ text))

attest_answer : (M L text : List ℕ) → (attest M L text).ans ≡ 0 ∷ mac L (hash L (owner L)) text
unfolding attest mac eight
attest_answer M L text = refl

pub attest_is_hmac : AttestIsHmac
unfolding lookup calls
attest_is_hmac b M L W a r d =
    (parts (opened refl d)).2
    ∙ attest_answer M L (args W 1 8)
    ∙ ap (λ (h : List ℕ). 0 ∷ h) (mac_is L (hash L (owner L)) (args W 1 8))
    ∙ ap (λ (x : ℕ). 0 ∷ hmac (key L) (hash L x ++ args W 1 8)) (runs_for r)

-- ---- Verify
same_same : (xs : List ℕ) → same_words xs xs ≡ true
unfolding same_words
same_same [] = refl
same_same (x ∷ xs) = rw (eq-eqb x x refl, same_same xs) refl

same_yes : (xs ys : List ℕ) → ys ≡ xs → same_words xs ys ≡ true
same_yes xs ys e = rw e (same_same xs)

same_are : (xs ys : List ℕ) → same_words xs ys ≡ true → xs ≡ ys
unfolding same_words
same_are [] [] e = refl
same_are [] (y ∷ ys) e = absurd (true≢false (sym e))
same_are (x ∷ xs) [] e = absurd (true≢false (sym e))
same_are (x ∷ xs) (y ∷ ys) e =
    let (p, q) = both (eqb x y) (same_words xs ys) e in
    ap₂ (λ (z : ℕ) (zs : List ℕ). z ∷ zs) (eqb-true x y p) (same_are xs ys q)

verify_answer : (M L text m claim : List ℕ) → (verify M L text m claim).ans ≡ 0 ∷ pick (same_words (hmac (key L) (m ++ text)) claim) 1 0 ∷ []
unfolding verify
verify_answer M L text m claim = rw (mac_is L m text) refl

same_not : (xs ys : List ℕ) → (ys ≡ xs → ⊥) → same_words xs ys ≡ false
same_not xs ys n = go (same_words xs ys) refl
  where
    go : (t : Bool) → same_words xs ys ≡ t → same_words xs ys ≡ false
    go true e = absurd (n (sym (same_are xs ys e)))
    go false e = e

pub verify_is_hmac : VerifyIsHmac
unfolding lookup calls
verify_is_hmac b M L W d =
    let claim : List ℕ = args W 17 8 in
    let right : List ℕ = hmac (key L) (args W 9 8 ++ args W 1 8) in
    let x = (parts (opened refl d)).2 ∙ verify_answer M L (args W 1 8) (args W 9 8) claim in
    let answer : Bool → List ℕ = λ t. 0 ∷ pick t 1 0 ∷ [] in
    record { yes = λ e. x ∙ ap answer (same_yes right claim e); no = λ n. x ∙ ap answer (same_not right claim n) }

-- ---- the key
-- of the header every record leaves the key
pub headed : (b : Machine) (M L W : List ℕ) (o : Out) → Moves b M L W o → Head L o.led
headed b M L W o (Moves.refused n e) = rw e (head_same L)
headed b M L W o (Moves.quiet i d e) = rw e (head_same L)
headed b M L W o (Moves.founds i d x) = x.calm.head
headed b M L W o (Moves.threads i d s x) = x.calm.head
headed b M L W o (Moves.tables i d s x) = x.calm.head
headed b M L W o (Moves.spares i d x) = x.calm.head
headed b M L W o (Moves.maps i d s x) = x.calm.head
headed b M L W o (Moves.closes i d x) = x.calm.head
headed b M L W o (Moves.enters i d x) = x.head
headed b M L W o (Moves.resumes i d x) = x.head
headed b M L W o (Moves.stops i d x) = x.calm.head
headed b M L W o (Moves.removes i d x) = x.calm.head
headed b M L W o (Moves.own_table i d x) = x.calm.head
headed b M L W o (Moves.own_maps i d x) = x.calm.head
headed b M L W o (Moves.own_unmaps i d x) = x.calm.head
headed b M L W o (Moves.exits i d x) = x.head
headed b M L W o (Moves.faults d x) = x.head
headed b M L W o (Moves.suspends i d x) = x.head

key_is : (L L' : List ℕ) → Head L L' → key L' ≡ key L
key_is L L' h = from_same 8 1 (header L') (header L) (λ k lo hi. h.key k (omega arith) (omega arith))

pub key_stays : KeyStays
key_stays b M₀ L₀ M L ok begin = refl
key_stays b M₀ L₀ M L ok (called M₁ L₁ W h) =
    let o = obey b M₁ L₁ W in
    key_is L₁ o.led (headed b M₁ L₁ W o (moves b M₁ L₁ W (history_keeps b M₀ L₀ M₁ L₁ ok h))) ∙ key_stays b M₀ L₀ M₁ L₁ ok h
key_stays b M₀ L₀ M L ok (outside M₁ M₂ L₁ h x) = key_stays b M₀ L₀ M₁ L₁ ok h

pub attested_is_verified : AttestedIsVerified
attested_is_verified b M L W M' L' X a ok r d h d' text measurement claim =
    (verify_is_hmac b M' L' X d').yes
    (rw (key_stays b M L M' L' ok h, text, measurement) (tails (claim ∙ attest_is_hmac b M L W a r d)))
  where
    tails : {xs ys : List ℕ} → 0 ∷ xs ≡ 0 ∷ ys → xs ≡ ys
    tails e = ap (drop 1) e
