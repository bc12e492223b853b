-- A space's measurement is the SHA-256 of what it was built from, along any history. Assumes nothing.
use Prim.Native.Nat.{ℕ, ◌*◌, ◌<◌}
use mathlib.Core.Path.{◌≡◌, refl, sym, ap, ◌∙◌}
use mathlib.Core.Bool.{Bool, true, false, ◌&&◌, and-false}
use mathlib.Core.Logic.{inl, inr, ⊎_elim}
use mathlib.Core.List.{List, [], ◌∷◌, ◌++◌}
use native.Mathlib.Omega.{arith}
use lib.Dec.{eqb}
use lib.ListN.{length, get_or, length-append}
use borrow.Author.Tests.{eq-eqb, ne_eqb}
use Rattle.words.specs.Words.{pick, record_words}
use Rattle.words.proofs.Cases.{same_or}
use Rattle.machine.specs.declared.Machine.{Machine}
use Rattle.sha256.specs.Sha256.{H0, absorb, finish, blocks}
use Rattle.sha256.proofs.Laws.{absorb_parts, absorb_block, digest_whole}
use Rattle.ledger.specs.Names.{space, thread, building, stopped}
use Rattle.ledger.specs.Ledger.{rec, type_of, owner_of, state_of, blocks_of, hash}
use Rattle.memory.specs.Memory.{words_of}
use Rattle.memory.proofs.Frames.{length_words_of}
use Rattle.accept.specs.Accept.{Accepted}
use Rattle.answer.specs.Answer.{Out, running}
use Rattle.building.specs.Calls.{thread_block, map_block, map_secure}
use Rattle.building.proofs.Laws.{passes_map_secure}
use Rattle.records.specs.Records.{arg}
use Rattle.calls.specs.Table.{calls, lookup}
use Rattle.batch.specs.Batch.{obey}
use Rattle.promises.specs.Terms.{code_of, Did}
use Rattle.promises.specs.Kept.{History.begin, History.called, History.outside}
use Rattle.promises.specs.Measured.{Build, Build.unbegun, Build.begun, Build.broken_off, Build.closed, grown, finalising, stopping, stepped, build_of, Holds, Measures, MeasurementIsSha256}
use Rattle.promises.proofs.Read.{from_same, hash_same}
use Rattle.promises.proofs.Kept.{history_keeps}
use Rattle.promises.proofs.Moves.{Same, Quiet, Founding, Making, Closing, Stopping, Turning, Moves}
use Rattle.promises.proofs.Moved.{moves}
use Rattle.promises.proofs.Opened.{effect}

-- ---- what a measurement speaks of stays; or the page is no space, before and after
data Stays (L L' : List ℕ) (a : ℕ) : Type 0 where
  as_it_was : type_of L' a ≡ type_of L a → state_of L' a ≡ state_of L a → blocks_of L' a ≡ blocks_of L a → hash L' a ≡ hash L a → Stays L L' a
  no_space : (type_of L a ≡ space → ⊥) → (type_of L' a ≡ space → ⊥) → Stays L L' a

-- the count of pages is not among it
by_words : {L L' : List ℕ} {a : ℕ} → ((j : ℕ) → (j ≡ 4 → ⊥) → j < record_words → rec L' a j ≡ rec L a j) → Stays L L' a
by_words {L} {L'} {a} h =
    as_it_was (h 0 (λ e. omega arith) (omega arith)) (h 3 (λ e. omega arith) (omega arith)) (h 5 (λ e. omega arith) (omega arith))
    (hash_same L L' a (λ j l u. h j (λ e. omega arith) (omega arith)))

by_same : {L L' : List ℕ} {a : ℕ} → Same L L' a → Stays L L' a
by_same h = by_words (λ j _. h j)

holds_stay : {L L' : List ℕ} {a : ℕ} {State : ℕ → Type 0} {h m : List ℕ} → Stays L L' a → Holds L a State h m → Holds L' a State h m
holds_stay (as_it_was t s k e) x =
    record { is_space = t ∙ x.is_space; state = rw s x.state; words = e ∙ x.words; blocks = rw k x.blocks }
holds_stay (no_space n _) x = absurd (n x.is_space)

stay : (L₀ : List ℕ) {L L' : List ℕ} {a : ℕ} (x : Build) → Stays L L' a → Measures L₀ L a x → Measures L₀ L' a x
stay L₀ unbegun (as_it_was t s k e) m = λ n z. m n (sym t ∙ z)
stay L₀ unbegun (no_space _ n) m = λ _. n
stay L₀ (begun w) s m = holds_stay s m
stay L₀ (broken_off w) s m = holds_stay s m
stay L₀ (closed w) s m = holds_stay s m

-- every record but page p's stays; page p, if it is a, is no space before or after
beside : {L L' : List ℕ} {p a : ℕ} → ((q : ℕ) → (q ≡ p → ⊥) → Same L L' q) → (p ≡ a → ⊥) → Stays L L' a
beside {a = a} others n = by_same (others a (λ e. n (sym e)))

split : {L L' : List ℕ} (p a : ℕ) → (type_of L p ≡ space → ⊥) → (type_of L' p ≡ space → ⊥) → ((p ≡ a → ⊥) → Stays L L' a) → Stays L L' a
split p a n n' rest = ⊎_elim (λ e. no_space (λ z. n (rw e z)) (λ z. n' (rw e z))) rest (same_or p a)

thread_stays : {L L' : List ℕ} (t a : ℕ) → type_of L t ≡ thread → type_of L' t ≡ type_of L t → ((q : ℕ) → (q ≡ t → ⊥) → Same L L' q) → Stays L L' a
thread_stays t a is same others = split t a (λ z. omega arith) (λ z. omega arith) (beside others)

-- ---- the calls that make a page in space s
module _ {b : Machine} {L L' : List ℕ} {s p k : ℕ} {vs h : List ℕ} (x : Making b L L' s p vs k h) where
  made_else : (a : ℕ) → (get_or vs 0 0 ≡ space → ⊥) → (s ≡ a → ⊥) → Stays L L' a
  made_else a other n =
      split p a (λ z. omega (arith, x.p_free)) (λ z. other (sym (x.new 0 (omega arith)) ∙ z))
      (λ m. by_same (x.others a (λ e. n (sym e)) (λ e. m (sym e))))

  made_same : k ≡ 0 → h ≡ hash L s → Stays L L' s
  made_same e same =
      as_it_was (x.words 0 (inl (omega arith)) (omega arith)) (x.words 3 (inl (omega arith)) (omega arith)) (omega (arith, x.blocks))
      (x.hashes ∙ same)

  -- the words ws are measured
  made_grows : (L₀ ws : List ℕ) → state_of L s ≡ building → h ≡ absorb (hash L s) ws → length ws ≡ 16 * k
      → (y : Build) → Measures L₀ L s y → Measures L₀ L' s (grown ws y)
  made_grows L₀ ws is e l unbegun m = λ n _. m n x.is_space
  made_grows L₀ ws is e l (begun w) m =
      record {
        is_space = x.words 0 (inl (omega arith)) (omega arith) ∙ x.is_space;
        state = x.words 3 (inl (omega arith)) (omega arith) ∙ is;
        words = x.hashes ∙ e ∙ ap (λ (h : List ℕ). absorb h ws) m.words ∙ sym (absorb_parts H0 w ws (blocks_of L s) (sym m.blocks));
        blocks = omega (arith, x.blocks, m.blocks, length-append w ws);
      }
  made_grows L₀ ws is e l (broken_off w) m = absurd (omega (arith, m.state))
  made_grows L₀ ws is e l (closed w) m = absurd (m.state is)

-- ---- one record
-- the frame that a done MapSecure names is insecure, so it has 1,024 words
pub copies : (b : Machine) (M L W : List ℕ) → Accepted b M L → Did b M L W 6 → length (words_of M (arg W 4)) ≡ 1024
unfolding lookup calls map_secure
copies b M L W ok d =
    let insecure = (passes_map_secure b M L (arg W 1) (arg W 2) (arg W 3) (arg W 4) (effect refl d refl).0).7 in
    length_words_of M (arg W 4) (omega (arith, insecure.below, ok.lent.memory))

module _ (b : Machine) (M L W L₀ : List ℕ) (a : ℕ) where
  -- what the record makes of a build, its outcome being o
  unfoldable next : Out → Build → Build
  next o x = pick (eqb (code_of o) 0 && eqb (arg W 1) a) (stepped M W x) x

  unstepped : (o : Out) (x : Build) → stepped M W x ≡ x → next o x ≡ x
  unfolding next
  unstepped o x e = go (eqb (code_of o) 0 && eqb (arg W 1) a)
    where
      go : (t : Bool) → pick t (stepped M W x) x ≡ x
      go true = e
      go false = refl

  undone : (o : Out) (x : Build) → (code_of o ≡ 0 → ⊥) → next o x ≡ x
  unfolding next
  undone o x n = rw (ne_eqb (code_of o) 0 n) refl

  unnamed : (o : Out) (x : Build) → (arg W 1 ≡ a → ⊥) → next o x ≡ x
  unfolding next
  unnamed o x n = rw (ne_eqb (arg W 1) a n, and-false (eqb (code_of o) 0)) refl

  named : (o : Out) (x : Build) → code_of o ≡ 0 → arg W 1 ≡ a → next o x ≡ stepped M W x
  unfolding next stepped
  named o x d e = rw (eq-eqb (code_of o) 0 d, eq-eqb (arg W 1) a e) refl

  quiet_leaves : (x : Build) → Quiet (arg W 0) → stepped M W x ≡ x
  unfolding stepped
  quiet_leaves x =
      ⊎_elim (λ e. rw e)
      (⊎_elim (λ e. rw e)
      (⊎_elim (λ e. rw e) (⊎_elim (λ e. rw e) (⊎_elim (λ e. rw e) (⊎_elim (λ e. rw e) (⊎_elim (λ e. rw e) (λ e. rw e)))))))

  -- ---- the calls that name the space: number by number
  closes_on : {L' : List ℕ} → Closing L L' a → (y : Build) → Measures L₀ L a y → Measures L₀ L' a (finalising y)
  closes_on x unbegun m = λ n _. m n x.is_space
  closes_on x (begun w) m =
      record {
        is_space = x.words 0 (inl (omega arith)) (omega arith) ∙ x.is_space;
        state = λ z. omega (arith, x.now);
        words =
            x.hashes ∙ ap (λ (h : List ℕ). finish h (blocks_of L a)) m.words ∙ sym (digest_whole w (blocks_of L a) (sym m.blocks));
        blocks = rw (x.words 5 (inr (inl (omega arith, omega arith))) (omega arith)) m.blocks;
      }
  closes_on x (broken_off w) m = absurd (omega (arith, m.state, x.was))
  closes_on x (closed w) m = absurd (m.state x.was)

  stops_on : {L' : List ℕ} → Stopping L L' a → (y : Build) → Measures L₀ L a y → Measures L₀ L' a (stopping y)
  stops_on {L'} x y m = go y m
    where
      held : {S : ℕ → Type 0} {h w : List ℕ} (S' : ℕ → Type 0) → S' (state_of L' a) → Holds L a S h w → Holds L' a S' h w
      held S' s z =
          record {
            is_space = x.words 0 (λ e. omega arith) (omega arith) ∙ z.is_space;
            state = s;
            words = hash_same L L' a (λ j l u. x.words j (λ e. omega arith) (omega arith)) ∙ z.words;
            blocks = rw (x.words 5 (λ e. omega arith) (omega arith)) z.blocks;
          }

      go : (y : Build) → Measures L₀ L a y → Measures L₀ L' a (stopping y)
      go unbegun m = λ n _. m n x.is_space
      go (begun w) m = held (λ s. s ≡ stopped) x.now m
      go (broken_off w) m = held (λ s. s ≡ stopped) x.now m
      go (closed w) m = held (λ s. s ≡ building → ⊥) (λ z. omega (arith, x.now)) m

  founded : {L' : List ℕ} {f : ℕ} → Founding b L L' a f → Measures L₀ L' a (begun [])
  unfolding H0 absorb blocks
  founded {L'} {f} x =
      record {
        is_space = x.a_new 0 (omega arith);
        state = x.a_new 3 (omega arith);
        words = from_same 8 6 (rec L' a) (λ k. get_or (space ∷ a ∷ f ∷ building ∷ 1 ∷ 0 ∷ H0) k 0) (λ k lo hi. x.a_new k (omega arith));
        blocks = rw (x.a_new 5 (omega arith));
      }

  -- ---- nothing that is measured changes; the record names the space, or it does not
  rests : (o : Out) (y : Build) → next o y ≡ y → Stays L o.led a → Measures L₀ L a y → Measures L₀ o.led a (next o y)
  rests o y e s m = rw e (stay L₀ y s m)

  by_name : (o : Out) (y z : Build) → code_of o ≡ 0 → stepped M W y ≡ z → (arg W 1 ≡ a → Measures L₀ o.led a z)
      → ((arg W 1 ≡ a → ⊥) → Stays L o.led a) → Measures L₀ L a y → Measures L₀ o.led a (next o y)
  by_name o y z d e f g m =
      ⊎_elim (λ i. rw (named o y d i ∙ e) (f i)) (λ n. rests o y (unnamed o y n) (g n) m) (same_or (arg W 1) a)

  turned : {L' vs : List ℕ} {p t : ℕ} → Turning b L L' p t vs → (t ≡ space → ⊥) → (get_or vs 0 0 ≡ space → ⊥) → Stays L L' a
  turned {p = p} x n n' =
      split p a (λ z. n (sym x.was ∙ z)) (λ z. n' (sym (x.new 0 (omega arith)) ∙ z)) (beside x.others)

  step : (o : Out) → (arg W 0 ≡ 6 → code_of o ≡ 0 → length (words_of M (arg W 4)) ≡ 1024) → Moves b M L W o
      → (y : Build) → Measures L₀ L a y → Measures L₀ o.led a (next o y)
  unfolding stepped
  step o c (Moves.refused n e) y m = rests o y (undone o y n) (rw e (by_same (λ j _. refl))) m
  step o c (Moves.quiet i d e) y m = rests o y (unstepped o y (quiet_leaves y i)) (rw e (by_same (λ j _. refl))) m
  step o c (Moves.founds i d x) y m =
      by_name o y (begun []) d (rw i) (λ e. founded (rw e at x))
      (λ n.
      split (arg W 2) a (λ z. omega (arith, x.f_free)) (λ z. omega (arith, x.f_new 0 (omega arith)))
      (λ k. by_same (x.others a (λ e. n (sym e)) (λ e. k (sym e)))))
      m
  step o c (Moves.threads i d s x) y m =
      by_name o y (grown (thread_block (arg W 3)) y) d (rw i)
      (λ e. made_grows (rw e at x) L₀ (thread_block (arg W 3)) (rw e at s) (sym (absorb_block (hash L a) (thread_block (arg W 3)) refl)) refl y m)
      (made_else x a (λ z. omega arith))
      m
  step o c (Moves.tables i d s x) y m =
      rests o y (unstepped o y (rw i))
      (⊎_elim (λ e. made_same (rw e at x) refl refl) (made_else x a (λ z. omega arith)) (same_or (arg W 1) a))
      m
  step o c (Moves.spares i d x) y m =
      rests o y (unstepped o y (rw i))
      (⊎_elim (λ e. made_same (rw e at x) refl refl) (made_else x a (λ z. omega arith)) (same_or (arg W 1) a))
      m
  step o c (Moves.maps i d s x) y m =
      let ws : List ℕ = words_of M (arg W 4) in
      let block : List ℕ = map_block (arg W 3) in
      by_name o y (grown (block ++ ws) y) d (rw i)
      (λ e. made_grows (rw e at x) L₀ (block ++ ws) (rw e at s)
      (ap (λ (h : List ℕ). absorb h ws) (sym (absorb_block (hash L a) block refl)) ∙ sym (absorb_parts (hash L a) block ws 1 refl))
      (omega (arith, length-append block ws, c i d)) y m)
      (made_else x a (λ z. omega arith))
      m
  step o c (Moves.closes i d x) y m = by_name o y (finalising y) d (rw i) (λ e. closes_on (rw e at x) y m) (beside x.others) m
  step o c (Moves.enters i d x) y m = rests o y (unstepped o y (rw i)) (by_same (x.all a)) m
  step o c (Moves.resumes i d x) y m =
      rests o y (unstepped o y (rw i)) (thread_stays (arg W 1) a x.is_thread (x.words 0 (inl (omega arith)) (omega arith)) x.others) m
  step o c (Moves.stops i d x) y m = by_name o y (stopping y) d (rw i) (λ e. stops_on (rw e at x) y m) (beside x.others) m
  step o c (Moves.removes i d x) y m =
      by_name o y unbegun d (rw i) (λ e _ z. omega (arith, (rw e at x).new 0 (omega arith)))
      (λ n.
      ⊎_elim (λ e. by_words (rw e at (x.words (λ z. n (sym z ∙ e))))) (λ k. by_same (x.others a (λ e. n (sym e)) (λ e. k (sym e))))
      (same_or (owner_of L (arg W 1)) a))
      m
  step o c (Moves.own_table i d x) y m = rests o y (unstepped o y (rw i)) (turned x (λ z. omega arith) (λ z. omega arith)) m
  step o c (Moves.own_maps i d x) y m = rests o y (unstepped o y (rw i)) (turned x (λ z. omega arith) (λ z. omega arith)) m
  step o c (Moves.own_unmaps i d x) y m = rests o y (unstepped o y (rw i)) (turned x (λ z. omega arith) (λ z. omega arith)) m
  step o c (Moves.exits i d x) y m = rests o y (unstepped o y (rw i)) (by_same (x.all a)) m
  step o c (Moves.faults d x) y m = rests o y (undone o y (λ z. omega (arith, d))) (by_same (x.all a)) m
  step o c (Moves.suspends i d x) y m =
      rests o y (unstepped o y (rw i)) (thread_stays (running L) a x.is_thread (x.words 0 (inl (omega arith)) (omega arith)) x.others) m

-- ---- along a history
pub measurement_is_sha256 : MeasurementIsSha256
unfolding build_of next
measurement_is_sha256 b M₀ L₀ M L a ok begin = λ n. n
measurement_is_sha256 b M₀ L₀ M L a ok (called M₁ L₁ W h) =
    let here = history_keeps b M₀ L₀ M₁ L₁ ok h in
    step b M₁ L₁ W L₀ a (obey b M₁ L₁ W) (λ i d. copies b M₁ L₁ W here (record { asks = i; done = d })) (moves b M₁ L₁ W here) (build_of a h)
    (measurement_is_sha256 b M₀ L₀ M₁ L₁ a ok h)
measurement_is_sha256 b M₀ L₀ M L a ok (outside M₁ M₂ L₁ h x) = measurement_is_sha256 b M₀ L₀ M₁ L₁ a ok h
