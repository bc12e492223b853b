-- A demand with a test that decides it: numbers, two demands, a demand with a decided premise, all numbers below another, all words of a
-- list. Assumes nothing.
use Prim.Native.Nat.{ℕ, zero, suc, ◌+◌, ◌≤◌, ◌<◌}
use mathlib.Core.Path.{◌≡◌, refl, sym, ap, ◌∙◌}
use mathlib.Core.Bool.{Bool, true, false, true≢false}
use mathlib.Core.Logic.{◌⊎◌, inl, inr, ⊎_elim}
use mathlib.Core.List.{List, [], ◌∷◌}
use native.Mathlib.Omega.{arith}
use lib.Dec.{eqb, leb, ltb}
use lib.ListN.{length, get_or}
use borrow.Author.Tests.{ltb-true, ltb-false, leb-true, leb-false, eqb-true, eqb-false, eq-eqb, ne_eqb}
use Rattle.words.specs.Words.{Says, pick}
use Rattle.words.proofs.Cases.{same_or}
use Rattle.words.proofs.Says.{says_same}

pub record Decided (C : Type 0) : Type 0 where
  pub test : Bool
  pub says : Says test C

-- a demand that holds where another does
abbrev pub as_if : {C D : Type 0} → (C → D) → (D → C) → Decided C → Decided D
as_if to from x = record { test = x.test; says = says_same x.test to from x.says }

-- ---- numbers
abbrev pub equal : (x y : ℕ) → Decided (x ≡ y)
equal x y = record { test = eqb x y; says = go (eqb x y) refl }
  where
    go : (t : Bool) → eqb x y ≡ t → Says t (x ≡ y)
    go true e = eqb-true x y e
    go false e = eqb-false x y e

abbrev pub less : (x y : ℕ) → Decided (x < y)
less x y = record { test = ltb x y; says = go (ltb x y) refl }
  where
    go : (t : Bool) → ltb x y ≡ t → Says t (x < y)
    go true e = ltb-true x y e
    go false e = λ l. let m = ltb-false x y e in omega arith

abbrev pub at_most : (x y : ℕ) → Decided (x ≤ y)
at_most x y = record { test = leb x y; says = go (leb x y) refl }
  where
    go : (t : Bool) → leb x y ≡ t → Says t (x ≤ y)
    go true e = leb-true x y e
    go false e = λ l. let m = leb-false x y e in omega arith

-- a test itself
abbrev pub passes : (t : Bool) → Decided (t ≡ true)
passes t = record { test = t; says = go t }
  where
    go : (t : Bool) → Says t (t ≡ true)
    go true = refl
    go false = λ e. true≢false (sym e)

abbrev pub never : {C : Type 0} → (C → ⊥) → Decided C
never n = record { test = false; says = n }

abbrev pub always : {C : Type 0} → C → Decided C
always c = record { test = true; says = c }

-- ---- demands together: the second is looked at only where the first leaves it open
module _ {C D : Type 0} where
  abbrev pub then : (t : Bool) → Says t C → (C → Decided D) → Decided (C × D)
  then true c f = as_if (λ d. (c, d)) (λ x. x.1) (f c)
  then false n f = record { test = false; says = λ x. n x.0 }

  abbrev pub and_then : Decided C → (C → Decided D) → Decided (C × D)
  and_then x f = then x.test x.says f

  abbrev pub given : (t : Bool) → Says t C → (C → Decided D) → Decided (C → D)
  given true c f = as_if (λ d _. d) (λ g. g c) (f c)
  given false n f = record { test = true; says = λ c. absurd (n c) }

  abbrev pub where_so : Decided C → (C → Decided D) → Decided (C → D)
  where_so x f = given x.test x.says f

  abbrev pub barring : (t : Bool) → Says t C → ((C → ⊥) → Decided D) → Decided ((C → ⊥) → D)
  barring true c f = record { test = true; says = λ n. absurd (n c) }
  barring false n f = as_if (λ d _. d) (λ g. g n) (f n)

  abbrev pub where_not : Decided C → ((C → ⊥) → Decided D) → Decided ((C → ⊥) → D)
  where_not x f = barring x.test x.says f

  abbrev pub either : (t : Bool) → Says t C → Decided D → Decided (C ⊎ D)
  either true c y = record { test = true; says = inl c }
  either false n y = as_if inr (λ z. ⊎_elim (λ c. absurd (n c)) (λ d. d) z) y

  abbrev pub or_else : Decided C → Decided D → Decided (C ⊎ D)
  or_else x y = either x.test x.says y

  abbrev pub by : (t : Bool) → Says t C → (C → Decided D) → ((C → ⊥) → Decided D) → Decided D
  by true c f g = f c
  by false n f g = g n

  -- a demand that is decided one way where another holds, and another way where it does not
  abbrev pub by_case : Decided C → (C → Decided D) → ((C → ⊥) → Decided D) → Decided D
  by_case x f g = by x.test x.says f g

infixr 4 ◌and◌
abbrev pub ◌and◌ : {C D : Type 0} → Decided C → Decided D → Decided (C × D)
x and y = and_then x (λ _. y)

-- ---- all numbers below n
module _ (P : ℕ → Type 0) where
  pub one_more : (n : ℕ) → ((i : ℕ) → i < n → P i) × P n → (i : ℕ) → i < suc n → P i
  one_more n x i l = ⊎_elim (λ e. rw e x.1) (λ d. x.0 i (omega arith)) (same_or i n)

  abbrev pub below : (n : ℕ) → ((i : ℕ) → i < n → Decided (P i)) → Decided ((i : ℕ) → i < n → P i)
  below zero f = always (λ i l. absurd (omega arith))
  below (suc n) f =
      as_if (one_more n) (λ all. (λ i l. all i (omega arith), all n (omega arith))) (below n (λ i l. f i (omega arith)) and f n (omega arith))

-- ---- the words of a list that are not zero, each with its place, from place i on
pub record Mark : Type 0 where
  pub place : ℕ
  pub word : ℕ

abbrev pub marks : ℕ → List ℕ → List Mark
marks i [] = []
marks i (zero ∷ ws) = marks (suc i) ws
marks i (suc v ∷ ws) = record { place = i; word = suc v } ∷ marks (suc i) ws

-- what is held at place k
abbrev pub held : List Mark → ℕ → ℕ
held [] k = 0
held (d ∷ ds) k = pick (eqb d.place k) d.word (held ds k)

held_before : (i k : ℕ) (ws : List ℕ) → k < i → held (marks i ws) k ≡ 0
held_before i k [] l = refl
held_before i k (zero ∷ ws) l = held_before (suc i) k ws (omega arith)
held_before i k (suc v ∷ ws) l = rw (ne_eqb i k (λ e. omega arith)) (held_before (suc i) k ws (omega arith))

pub held_is : (i k : ℕ) (ws : List ℕ) → held (marks i ws) (i + k) ≡ get_or ws k 0
held_is i k [] = refl
held_is i zero (zero ∷ ws) = held_before (suc i) (i + 0) ws (omega arith)
held_is i zero (suc v ∷ ws) = rw (eq-eqb i (i + 0) (omega arith)) refl
held_is i (suc k) (zero ∷ ws) = ap (held (marks (suc i) ws)) {x = i + suc k} {y = suc i + k} (omega arith) ∙ held_is (suc i) k ws
held_is i (suc k) (suc v ∷ ws) =
    rw (ne_eqb i (i + suc k) (λ e. omega arith))
    (ap (held (marks (suc i) ws)) {x = i + suc k} {y = suc i + k} (omega arith) ∙ held_is (suc i) k ws)

-- P of each; where it holds of zero it then holds of all the list's words
module _ (P : ℕ → ℕ → Type 0) where
  abbrev pub Each : List Mark → Type 0
  Each [] = Unit {0}
  Each (d ∷ ds) = P d.place d.word × Each ds

  abbrev pub each : ((i v : ℕ) → Decided (P i v)) → (ds : List Mark) → Decided (Each ds)
  each f [] = always tt
  each f (d ∷ ds) = f d.place d.word and each f ds

  pub each_word : ((i : ℕ) → P i 0) → (i : ℕ) (ws : List ℕ) → Each (marks i ws) → (k : ℕ) → k < length ws → P (i + k) (get_or ws k 0)
  each_word z i [] x k l = absurd (omega arith)
  each_word z i (zero ∷ ws) x zero l = z (i + 0)
  each_word z i (suc v ∷ ws) x zero l = let e : i + 0 ≡ i = omega arith in rw e x.0
  each_word z i (zero ∷ ws) x (suc k) l = let e : i + suc k ≡ suc i + k = omega arith in rw e (each_word z (suc i) ws x k (omega arith))
  each_word z i (suc v ∷ ws) x (suc k) l = let e : i + suc k ≡ suc i + k = omega arith in rw e (each_word z (suc i) ws x.1 k (omega arith))

  later : (i : ℕ) (ws : List ℕ) (x : ℕ) → ((k : ℕ) → k < length (x ∷ ws) → P (i + k) (get_or (x ∷ ws) k 0))
      → (k : ℕ) → k < length ws → P (suc i + k) (get_or ws k 0)
  later i ws x all k l = let e : i + suc k ≡ suc i + k = omega arith in rw e at (all (suc k) (omega arith))

  pub each_mark : (i : ℕ) (ws : List ℕ) → ((k : ℕ) → k < length ws → P (i + k) (get_or ws k 0)) → Each (marks i ws)
  each_mark i [] all = tt
  each_mark i (zero ∷ ws) all = each_mark (suc i) ws (later i ws 0 all)
  each_mark i (suc v ∷ ws) all =
      let e : i + 0 ≡ i = omega arith in
      (rw e at (all 0 (omega arith)), each_mark (suc i) ws (later i ws (suc v) all))

-- ---- all words of a list zero
pub zero_first : (x : ℕ) (ws : List ℕ) → (x ≡ 0) × ((k : ℕ) → get_or ws k 0 ≡ 0) → (k : ℕ) → get_or (x ∷ ws) k 0 ≡ 0
zero_first x ws z zero = z.0
zero_first x ws z (suc k) = z.1 k

abbrev pub all_zero_lem : (ws : List ℕ) → Decided ((k : ℕ) → get_or ws k 0 ≡ 0)
all_zero_lem [] = always (λ k. refl)
all_zero_lem (x ∷ ws) = as_if (zero_first x ws) (λ all. (all 0, λ k. all (suc k))) (equal x 0 and all_zero_lem ws)
