-- A record leaves alone whatever it is not said to change. Assumes nothing.
use Prim.Native.Nat.{ℕ, ◌≤◌, ◌<◌}
use mathlib.Core.Path.{◌≡◌, refl, sym, ◌∙◌}
use mathlib.Core.Logic.{◌⊎◌, ⊎_elim, inl, inr}
use mathlib.Core.List.{List, ◌∷◌}
use native.Mathlib.Omega.{arith}
use Rattle.words.proofs.Cases.{same_or, lt_or_ge}
use Rattle.machine.specs.declared.Machine.{Machine}
use Rattle.machine.specs.Machine.{most_pages}
use Rattle.ledger.specs.Names.{running_word, free, space, thread, first_level, second_level, data_page, spare, building, blocks_word, space_end}
use Rattle.ledger.specs.Ledger.{header, rec, type_of, state_of, hash, map_bit}
use Rattle.answer.specs.Answer.{running}
use Rattle.accept.specs.Accept.{free_flag, Accepted}
use Rattle.accept.proofs.FreeMap.{past_pages, in_use, is_free}
use Rattle.records.specs.Records.{arg}
use Rattle.batch.specs.Batch.{obey}
use Rattle.kept.proofs.Facts.Bridge.{bit_says}
use Rattle.promises.specs.Else.{Names, Names.systems, Names.seconds, Names.enclaves, MayMove, MayMove.named, MayMove.owns, MayMove.ran, MayRun, MayRun.begins, MayRun.ends, TakenOrFreed, LeftAlone, NothingElse}
use Rattle.promises.proofs.Read.{hash_word}
use Rattle.promises.proofs.Kept.{every_record_keeps}
use Rattle.promises.proofs.Moves.{Same, Head, Calm, Making, Turning, Moves, Moves.refused, Moves.quiet, Moves.founds, Moves.threads, Moves.tables, Moves.spares, Moves.maps, Moves.closes, Moves.enters, Moves.resumes, Moves.stops, Moves.removes, Moves.own_table, Moves.own_maps, Moves.own_unmaps, Moves.faults, Moves.suspends}
use Rattle.promises.proofs.Moved.{moves}
use Rattle.promises.proofs.Moved.Steps.{head_same}

-- ---- a bit of the free map stays where the page is not taken or freed
bits_stay : {b : Machine} {M L M' L' : List ℕ} → Accepted b M L → Accepted b M' L' → (p : ℕ) → p < most_pages
    → (TakenOrFreed L L' p → ⊥) → map_bit L' p ≡ map_bit L p
bits_stay {b} {M} {L} {M'} {L'} ok ok' p l n =
    bit_says ok' p l ∙ same (lt_or_ge p b.pages) (same_or (rec L p 0) free) (same_or (rec L' p 0) free) ∙ sym (bit_says ok p l)
  where
    same : (p < b.pages) ⊎ (b.pages ≤ p) → (rec L p 0 ≡ free) ⊎ (rec L p 0 ≡ free → ⊥) → (rec L' p 0 ≡ free) ⊎ (rec L' p 0 ≡ free → ⊥)
        → free_flag b.pages (rec L') p ≡ free_flag b.pages (rec L) p
    same (inr h) x y = sym (past_pages b.pages (rec L') p h) ∙ past_pages b.pages (rec L) p h
    same (inl h) (inl x) (inl y) = sym (is_free b.pages (rec L') p h y) ∙ is_free b.pages (rec L) p h x
    same (inl h) (inr x) (inr y) = sym (in_use b.pages (rec L') p h y) ∙ in_use b.pages (rec L) p h x
    same (inl h) (inl x) (inr y) = absurd (n (inl (x, y)))
    same (inl h) (inr x) (inl y) = absurd (n (inr (x, y)))

-- ---- a page's record: it stays, or W may change it and, while the page keeps its type, not its first three words, and of a space not its
-- state but by Finalise and Stop, nor what is measured once it is not building
record Steady (L L' W : List ℕ) (a : ℕ) : Type 0 where
  state : (state_of L' a ≡ state_of L a) ⊎ (((arg W 0 ≡ 8) ⊎ (arg W 0 ≡ 11)) × (arg W 1 ≡ a))
  measurement : (state_of L a ≡ building → ⊥) → (k : ℕ) → blocks_word ≤ k → k < space_end → rec L' a k ≡ rec L a k

record Kept (L L' W : List ℕ) (q : ℕ) : Type 0 where
  firsts : (k : ℕ) → k < 3 → rec L' q k ≡ rec L q k
  of_space : type_of L q ≡ space → Steady L L' W q

abbrev Fate : List ℕ → List ℕ → List ℕ → ℕ → Type 0
Fate L L' W q = Same L L' q ⊎ (MayMove L W q × (type_of L' q ≡ type_of L q → Kept L L' W q))

module _ (b : Machine) (M L W : List ℕ) (ok : Accepted b M L) where
  abbrev L' : List ℕ
  L' = (obey b M L W).led

  abbrev Keeps : ℕ → Type 0
  Keeps q = type_of L' q ≡ type_of L q → Kept L L' W q

  -- of all pages, from what holds of one and of the others; and of two and of the others
  one : (a : ℕ) → MayMove L W a → Keeps a → ((q : ℕ) → (q ≡ a → ⊥) → Same L L' q) → (q : ℕ) → Fate L L' W q
  one a may kept others q = ⊎_elim (λ e. inr (rw e (may, kept))) (λ n. inl (others q n)) (same_or q a)

  two : (a p : ℕ) → MayMove L W a → Keeps a → MayMove L W p → Keeps p
      → ((q : ℕ) → (q ≡ a → ⊥) → (q ≡ p → ⊥) → Same L L' q) → (q : ℕ) → Fate L L' W q
  two a p may kept may' kept' others q =
      ⊎_elim (λ e. inr (rw e (may, kept)))
      (λ n. ⊎_elim (λ e. inr (rw e (may', kept'))) (λ n'. inl (others q n n')) (same_or q p)) (same_or q a)

  -- a page of type t that was of another; one of a type that is no space's; a space
  retyped : (q t : ℕ) → rec L' q 0 ≡ t → (rec L q 0 ≡ t → ⊥) → Keeps q
  retyped q t now other e = absurd (other (sym e ∙ now))

  no_space : (q t : ℕ) → type_of L q ≡ t → (t ≡ space → ⊥) → ((k : ℕ) → k < 3 → rec L' q k ≡ rec L q k) → Keeps q
  no_space q t is other firsts _ = record { firsts = firsts; of_space = λ e. absurd (other (sym is ∙ e)) }

  a_space : (q : ℕ) → ((k : ℕ) → k < 3 → rec L' q k ≡ rec L q k) → Steady L L' W q → Keeps q
  a_space q firsts x _ = record { firsts = firsts; of_space = λ _. x }

  -- ---- the header and all pages
  keeps : (q : ℕ) → Fate L L' W q → Keeps q
  keeps q (inl s) =
      a_space q (λ k l. s k (omega arith)) (record { state = inl (s 3 (omega arith)); measurement = λ _ k lo hi. s k (omega arith) })
  keeps q (inr x) = x.1

  alone : Head L L' → (header L' running_word ≡ header L running_word) ⊎ MayRun b M L W → ((q : ℕ) → Fate L L' W q) → LeftAlone b M L W L'
  alone head who fate =
      record {
        records = λ p k l n kl. ⊎_elim (λ s. s k kl) (λ x. absurd (n x.0)) (fate p);
        state = λ a l is now. ((keeps a (fate a) (now ∙ sym is)).of_space is).state;
        measurement = λ a k l is now n. ((keeps a (fate a) (now ∙ sym is)).of_space is).measurement n k;
        running = who;
        key = head.key;
        bits = bits_stay ok (every_record_keeps b M L W ok);
        rest = head.rest;
        second = λ p l e _. (keeps p (fate p) e).firsts 2 (omega arith);
        owner = λ p l e. (keeps p (fate p) e).firsts 1 (omega arith);
      }

  same : L' ≡ L → LeftAlone b M L W L'
  same e = alone (rw e (head_same L)) (inl (rw e refl)) (λ q. inl (λ k l. rw e refl))

  calm : Calm L L' → ((q : ℕ) → Fate L L' W q) → LeftAlone b M L W L'
  calm x = alone x.head (inl x.still)

  -- ---- calls 3 to 6, of which 5 alone may come later than building; and 35 to 37
  making : {n : ℕ} {h : List ℕ} (t : ℕ) (vs : List ℕ) → 3 ≤ arg W 0 → arg W 0 ≤ 6 → (t ≡ free → ⊥)
      → (state_of L (arg W 1) ≡ building) ⊎ ((n ≡ 0) × (h ≡ hash L (arg W 1)))
      → Making b L L' (arg W 1) (arg W 2) (t ∷ vs) n h → LeftAlone b M L W L'
  making {n} {h} t vs few most used now x =
      calm x.calm
      (two (arg W 1) (arg W 2)
      (named (systems (omega arith) (omega arith) refl))
      (a_space (arg W 1) (λ k l. x.words k (inl (omega arith)) (omega arith))
      (record {
        state = inl (x.words 3 (inl (omega arith)) (omega arith));
        measurement = λ m k lo hi. ⊎_elim (λ s. absurd (m s)) (unmeasured k lo hi) now;
      }))
      (named (seconds (omega arith) most refl)) (retyped (arg W 2) t (x.new 0 (omega arith)) (λ e. used (sym e ∙ x.p_free)))
      x.others)
    where
      unmeasured : (k : ℕ) → blocks_word ≤ k → k < space_end → (n ≡ 0) × (h ≡ hash L (arg W 1)) → rec L' (arg W 1) k ≡ rec L (arg W 1) k
      unmeasured k lo hi (none, still) =
          ⊎_elim (λ e. rw e (omega (arith, x.blocks))) (λ m. hash_word L L' (arg W 1) k (x.hashes ∙ still) (omega arith) hi) (same_or k 5)

  turning : (s t : ℕ) (vs : List ℕ) → 35 ≤ arg W 0 → arg W 0 ≤ 37 → (s ≡ t → ⊥) → Turning b L L' (arg W 1) s (t ∷ vs) → LeftAlone b M L W L'
  turning s t vs lo hi other x =
      calm x.calm
      (one (arg W 1) (named (enclaves lo hi refl)) (retyped (arg W 1) t (x.new 0 (omega arith)) (λ e. other (sym x.was ∙ e))) x.others)

  -- ---- the space or thread that is named, and no other
  named_one : 2 ≤ arg W 0 → arg W 0 ≤ 12 → Keeps (arg W 1) → ((q : ℕ) → (q ≡ arg W 1 → ⊥) → Same L L' q) → (q : ℕ) → Fate L L' W q
  named_one lo hi = one (arg W 1) (named (systems lo hi refl))

  after : Moves b M L W (obey b M L W) → LeftAlone b M L W L'
  after (refused n e) = same e
  after (quiet i z e) = same e
  after (founds i z x) =
      calm x.calm
      (two (arg W 1) (arg W 2)
      (named (systems (omega arith) (omega arith) refl)) (retyped (arg W 1) space (x.a_new 0 (omega arith)) (λ e. omega (arith, x.a_free)))
      (named (seconds (omega arith) (omega arith) refl)) (retyped (arg W 2) first_level (x.f_new 0 (omega arith)) (λ e. omega (arith, x.f_free)))
      x.others)
  after (threads i z s x) = making thread _ (omega arith) (omega arith) (λ e. omega arith) (inl s) x
  after (tables i z s x) = making second_level _ (omega arith) (omega arith) (λ e. omega arith) (inl s) x
  after (spares i z x) = making spare _ (omega arith) (omega arith) (λ e. omega arith) (inr (refl, refl)) x
  after (maps i z s x) = making data_page _ (omega arith) (omega arith) (λ e. omega arith) (inl s) x
  after (closes i z x) =
      calm x.calm
      (named_one (omega arith) (omega arith)
      (a_space (arg W 1) (λ k l. x.words k (inl l) (omega arith))
      (record { state = inr (inl i, refl); measurement = λ n. absurd (n x.was) }))
      x.others)
  after (enters i z x) = alone x.head (inr (begins (inl i) z x.runs)) (λ q. inl (x.all q))
  after (resumes i z x) =
      alone x.head (inr (begins (inr i) z x.runs))
      (named_one (omega arith) (omega arith)
      (no_space (arg W 1) thread x.is_thread (λ e. omega arith) (λ k l. x.words k (inl l) (omega arith)))
      x.others)
  after (stops i z x) =
      calm x.calm
      (named_one (omega arith) (omega arith)
      (a_space (arg W 1) (λ k l. x.words k (λ e. omega arith) (omega arith))
      (record { state = inr (inr i, refl); measurement = λ _ k lo hi. x.words k (λ e. omega arith) (omega arith) }))
      x.others)
  after (removes i z x) =
      let p = arg W 1 in
      let names : Names W p = systems (omega arith) (omega arith) refl in
      let gone = retyped p free (x.new 0 (omega arith)) x.used in
      let left : (rec L p 1 ≡ p → ⊥) → (k : ℕ) → (k ≡ 4 → ⊥) → k < 14 → rec L' (rec L p 1) k ≡ rec L (rec L p 1) k
      = λ n k m l. x.words n k m (omega arith) in
      calm x.calm
      (two p (rec L p 1) (named names) gone (owns p names x.used refl)
      (⊎_elim (λ s. rw s gone)
      (λ n. a_space (rec L p 1) (λ k l. left n k (λ m. omega arith) (omega arith))
      (record { state = inl (left n 3 (λ m. omega arith) (omega arith)); measurement = λ _ k lo hi. left n k (λ m. omega arith) hi }))
      (same_or (rec L p 1) p))
      x.others)
  after (own_table i z x) = turning spare second_level _ (omega arith) (omega arith) (λ e. omega arith) x
  after (own_maps i z x) = turning spare data_page _ (omega arith) (omega arith) (λ e. omega arith) x
  after (own_unmaps i z x) = turning data_page spare _ (omega arith) (omega arith) (λ e. omega arith) x
  after (Moves.exits i z x) = alone x.head (inr (MayRun.exits i z x.nobody)) (λ q. inl (x.all q))
  after (faults c x) = alone x.head (inr (ends (inr c) x.nobody)) (λ q. inl (x.all q))
  after (suspends i c x) =
      alone x.head (inr (ends (inl c) x.nobody))
      (one (running L) (ran i x.was) (no_space (running L) thread x.is_thread (λ e. omega arith) (λ k l. x.words k (inl l) (omega arith)))
      x.others)

pub nothing_else : NothingElse
nothing_else b M L W ok = after b M L W ok (moves b M L W ok)
