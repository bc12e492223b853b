-- A measurement tells the build: its message is that of the steps, and no two lists of steps have one message. Assumes nothing.
use Prim.Native.Nat.{ℕ, ◌%◌}
use mathlib.Core.Path.{◌≡◌, refl, sym, ap, ap₂, ◌∙◌}
use mathlib.Core.Bool.{Bool, true, false, ◌&&◌}
use mathlib.Core.Logic.{◌⊎◌, inl, inr}
use mathlib.Core.List.{List, [], ◌∷◌, ◌++◌, append_assoc, append-nil, append_cancel_left, List-discrete}
use native.Mathlib.Decide.{ℕ_discrete}
use native.Mathlib.Omega.{arith}
use lib.Dec.{eqb}
use lib.ListN.{length, get_or, take, drop}
use lib.Seq.{take_at, drop_at}
use borrow.Author.Tests.{eqb-true}
use Rattle.words.specs.Words.{pick}
use Rattle.words.proofs.Zero.{both}
use Rattle.machine.specs.declared.Machine.{Machine}
use Rattle.machine.specs.Machine.{frame_words}
use Rattle.sha256.specs.Sha256.{sha256}
use Rattle.ledger.specs.Names.{building}
use Rattle.ledger.specs.Ledger.{state_of, hash}
use Rattle.memory.specs.Memory.{words_of}
use Rattle.memory.proofs.Frames.{words_of_at}
use Rattle.accept.specs.Accept.{Accepted}
use Rattle.building.specs.Calls.{thread_block, map_block, init_thread, map_secure}
use Rattle.building.proofs.Laws.{passes_init_thread, passes_map_secure}
use Rattle.records.specs.Records.{arg}
use Rattle.calls.specs.Table.{calls, lookup}
use Rattle.batch.specs.Batch.{obey}
use Rattle.promises.specs.Terms.{code_of, Did}
use Rattle.promises.specs.Kept.{History, History.begin, History.called, History.outside}
use Rattle.promises.specs.Measured.{Build, Build.unbegun, Build.begun, Build.broken_off, Build.closed, grown, finalising, stopping, stepped, build_of, Measures}
use Rattle.promises.specs.Tells.{Step, Step.entry, Step.page, Whole, message, added, steps_of, Spells, Built, MessageTellsTheBuild, Finished, Collide, MeasurementTellsTheBuild}
use Rattle.promises.proofs.Kept.{history_keeps}
use Rattle.promises.proofs.Measured.{copies, measurement_is_sha256}
use Rattle.promises.proofs.Opened.{effect}

-- ---- a message is that of one list of steps
-- word k of two messages that are one
word : (k : ℕ) {l l' : List ℕ} → l ≡ l' → get_or l k 0 ≡ get_or l' k 0
word k e = ap (λ (l : List ℕ). get_or l k 0) e

same_steps : (s t : List Step) → Whole s → Whole t → message s ≡ message t → s ≡ t
unfolding message
same_steps [] [] u v e = refl
same_steps [] (entry y ∷ t) u v e = absurd (omega (arith, word 0 e))
same_steps [] (page y ws ∷ t) u v e = absurd (omega (arith, word 0 e))
same_steps (entry x ∷ s) [] u v e = absurd (omega (arith, word 0 e))
same_steps (page x vs ∷ s) [] u v e = absurd (omega (arith, word 0 e))
same_steps (entry x ∷ s) (page y ws ∷ t) u v e = absurd (omega (arith, word 0 e))
same_steps (page x vs ∷ s) (entry y ∷ t) u v e = absurd (omega (arith, word 0 e))
same_steps (entry x ∷ s) (entry y ∷ t) u v e =
    ap₂ (λ (z : ℕ) (r : List Step). entry z ∷ r) (word 1 e) (same_steps s t u v (ap (drop 16) e))
same_steps (page x vs ∷ s) (page y ws ∷ t) u v e =
    let rest = ap (drop 16) e in
    let words = sym (take_at vs (message s) frame_words u.0) ∙ ap (take frame_words) rest ∙ take_at ws (message t) frame_words v.0 in
    let after = sym (drop_at vs (message s) frame_words u.0) ∙ ap (drop frame_words) rest ∙ drop_at ws (message t) frame_words v.0 in
    ap₂ (λ (z : Step) (r : List Step). z ∷ r) (ap₂ (λ (m : ℕ) (l : List ℕ). page m l) (word 1 e) words)
    (same_steps s t u.1 v.1 after)

-- ---- steps one after the other
message_after : (s t : List Step) → message (s ++ t) ≡ message s ++ message t
unfolding message
message_after [] t = refl
message_after (entry e ∷ s) t = ap (λ (l : List ℕ). thread_block e ++ l) (message_after s t) ∙ sym (append_assoc (thread_block e) (message s) (message t))
message_after (page map ws ∷ s) t =
    ap (λ (l : List ℕ). map_block map ++ ws ++ l) (message_after s t) ∙ sym (append_assoc (map_block map ++ ws) (message s) (message t))

whole_after : (s t : List Step) → Whole s → Whole t → Whole (s ++ t)
whole_after [] t u v = v
whole_after (entry e ∷ s) t u v = whole_after s t u v
whole_after (page map ws ∷ s) t u v = (u.0, whole_after s t u.1 v)

-- a right more or less is seen in its page's block
rights_told : (s t : List Step) (map map' : ℕ) (ws : List ℕ) → (map % 8 ≡ map' % 8 → ⊥)
    → message (s ++ page map ws ∷ t) ≡ message (s ++ page map' ws ∷ t) → ⊥
unfolding message
rights_told [] t map map' ws n e = n (ap (λ (v : ℕ). v % 8) (word 1 e))
rights_told (entry x ∷ s) t map map' ws n e = rights_told s t map map' ws n (ap (drop 16) e)
rights_told (page x vs ∷ s) t map map' ws n e = rights_told s t map map' ws n (append_cancel_left vs _ _ (ap (drop 16) e))

-- ---- along a history
-- steps more, while the space is built
grows : (L₀ L : List ℕ) (a : ℕ) {vs : List ℕ} (s t : List Step) (x : Build) → state_of L a ≡ building → vs ≡ message t → Whole t
    → Measures L₀ L a x → Built s x → Built (s ++ t) (grown vs x)
grows L₀ L a s t unbegun is e w m u = u
grows L₀ L a s t (begun ws) is e w m u =
    record { whole = whole_after s t u.whole w; words = ap₂ (λ (l r : List ℕ). l ++ r) u.words e ∙ sym (message_after s t) }
grows L₀ L a s t (broken_off ws) is e w m u = absurd (omega (arith, m.state))
grows L₀ L a s t (closed ws) is e w m u = absurd (m.state is)

-- finalised or stopped, the words are the same
ends : (s : List Step) (x : Build) → Built s x → Built s (finalising x) × Built s (stopping x)
ends s unbegun u = (u, u)
ends s (begun m) u = (u, u)
ends s (broken_off m) u = (u, u)
ends s (closed m) u = (u, u)

-- a done record that names the space
module _ (b : Machine) (M L W L₀ : List ℕ) (a : ℕ) (ok : Accepted b M L) (done : code_of (obey b M L W) ≡ 0) (names : arg W 1 ≡ a) where
  threads : arg W 0 ≡ 3 → state_of L a ≡ building
  unfolding lookup calls init_thread
  threads i = rw names at (passes_init_thread b L (arg W 1) (arg W 2) (arg W 3) (effect refl (record { asks = i; done = done }) refl).0).2

  maps : arg W 0 ≡ 6 → state_of L a ≡ building
  unfolding lookup calls map_secure
  maps i =
      rw names at (passes_map_secure b M L (arg W 1) (arg W 2) (arg W 3) (arg W 4) (effect refl (record { asks = i; done = done }) refl).0).2

  step : (s : List Step) (x : Build) → Measures L₀ L a x → Built s x → Built (added M W s) (stepped M W x)
  unfolding added stepped message
  step s x m u =
      go (eqb (arg W 0) 2) (eqb (arg W 0) 3) (eqb (arg W 0) 6) (eqb (arg W 0) 8) (eqb (arg W 0) 11) (eqb (arg W 0) 12)
      (eqb-true (arg W 0) 3) (eqb-true (arg W 0) 6)
    where
      ws : List ℕ
      ws = words_of M (arg W 4)

      go : (t₂ t₃ t₆ t₈ t₁₁ t₁₂ : Bool) → (t₃ ≡ true → arg W 0 ≡ 3) → (t₆ ≡ true → arg W 0 ≡ 6)
          → Built (pick t₂ [] (pick t₃ (s ++ entry (arg W 3) ∷ []) (pick t₆ (s ++ page (arg W 3) ws ∷ []) s)))
          (pick t₂ (begun [])
          (pick t₃ (grown (thread_block (arg W 3)) x)
          (pick t₆ (grown (map_block (arg W 3) ++ ws) x) (pick t₈ (finalising x) (pick t₁₁ (stopping x) (pick t₁₂ unbegun x))))))
      go true t₃ t₆ t₈ t₁₁ t₁₂ c d = record { whole = tt; words = refl }
      go false true t₆ t₈ t₁₁ t₁₂ c d = grows L₀ L a s (entry (arg W 3) ∷ []) x (threads (c refl)) refl tt m u
      go false false true t₈ t₁₁ t₁₂ c d =
          grows L₀ L a s (page (arg W 3) ws ∷ []) x (maps (d refl)) (sym (append-nil (map_block (arg W 3) ++ ws)))
          (copies b M L W ok (record { asks = d refl; done = done }), tt) m u
      go false false false true t₁₁ t₁₂ c d = (ends s x u).0
      go false false false false true t₁₂ c d = (ends s x u).1
      go false false false false false true c d = tt
      go false false false false false false c d = u

-- any record, done or not, whatever it names
any_step : (b : Machine) (M L W L₀ : List ℕ) (a : ℕ) → Accepted b M L → (s : List Step) (x : Build) → Measures L₀ L a x → Built s x
    → let t = eqb (code_of (obey b M L W)) 0 && eqb (arg W 1) a in Built (pick t (added M W s) s) (pick t (stepped M W x) x)
any_step b M L W L₀ a ok s x m u = go (eqb (code_of (obey b M L W)) 0 && eqb (arg W 1) a) (both (eqb (code_of (obey b M L W)) 0) (eqb (arg W 1) a))
  where
    go : (t : Bool) → (t ≡ true → (eqb (code_of (obey b M L W)) 0 ≡ true) × (eqb (arg W 1) a ≡ true))
        → Built (pick t (added M W s) s) (pick t (stepped M W x) x)
    go true c =
        step b M L W L₀ a ok (eqb-true (code_of (obey b M L W)) 0 (c refl).0) (eqb-true (arg W 1) a (c refl).1) s x m u
    go false c = u

built : (b : Machine) (M₀ L₀ M L : List ℕ) (a : ℕ) → Accepted b M₀ L₀ → (h : History b M₀ L₀ M L) → Built (steps_of a h) (build_of a h)
unfolding steps_of build_of
built b M₀ L₀ M L a ok begin = tt
built b M₀ L₀ M L a ok (called M₁ L₁ W h) =
    any_step b M₁ L₁ W L₀ a (history_keeps b M₀ L₀ M₁ L₁ ok h) (steps_of a h) (build_of a h) (measurement_is_sha256 b M₀ L₀ M₁ L₁ a ok h)
    (built b M₀ L₀ M₁ L₁ a ok h)
built b M₀ L₀ M L a ok (outside M₁ M₂ L₁ h x) = built b M₀ L₀ M₁ L₁ a ok h

pub message_tells_the_build : MessageTellsTheBuild
message_tells_the_build = record { map_block_is = λ map. refl; words = words_of_at; built = built; same_steps = same_steps; rights = rights_told }

-- ---- two measurements
spelled : {L : List ℕ} {a : ℕ} {s : List Step} {m : List ℕ} → Finished L a s m → Spells s m × (hash L a ≡ sha256 m)
spelled {L} {a} {s} {m} x =
    let told = built x.machine x.M₀ x.L₀ x.M L a x.accepted x.history in
    let holds = measurement_is_sha256 x.machine x.M₀ x.L₀ x.M L a x.accepted x.history in
    (rw (x.words, x.steps) at told, (rw x.words at holds).words)

pub measurement_tells_the_build : MeasurementTellsTheBuild
measurement_tells_the_build L L' a a' s s' m m' x y e =
    let (u, h) = spelled x in
    let (v, k) = spelled y in
    elim (List-discrete ℕ_discrete m m') [
      | yes same ↦ inl (same_steps s s' u.whole v.whole (sym u.words ∙ same ∙ v.words))
      | no two ↦ inr (record { two = two; one = sym h ∙ e ∙ k })
    ]
