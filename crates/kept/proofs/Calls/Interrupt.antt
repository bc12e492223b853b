-- Call 39, Interrupt r0-r15, flags, keeps what acceptance demands, whatever the list of registers. Assumes nothing.
use Prim.Native.Nat.{ℕ, ◌+◌, ◌≤◌}
use mathlib.Core.Path.{◌≡◌, sym, ap, ◌∙◌}
use mathlib.Core.List.{List, [], ◌∷◌, ◌++◌}
use mathlib.Core.Logic.{⊎_elim}
use native.Mathlib.Omega.{arith}
use lib.ListN.{length, get_or, take, length-append, length-take}
use lib.Seq.{length-take-le, get_or-append_seam}
use Rattle.words.proofs.Cases.{lt_or_ge}
use Rattle.machine.specs.declared.Machine.{Machine}
use Rattle.ledger.specs.Names.{running_word}
use Rattle.ledger.specs.Ledger.{header, rec, puts}
use Rattle.answer.specs.Answer.{running}
use Rattle.accept.specs.Accept.{Accepted}
use Rattle.enclave.specs.Calls.{top_four, interrupt}
use Rattle.kept.proofs.Layers.Rewrite.{word_here, word_past, rewrite_kept}
use Rattle.kept.proofs.Facts.Acting.{runs}

-- what is written: suspended, the registers, the flags
abbrev pub saves : List ℕ → List ℕ
saves regs = 1 ∷ take 16 regs ++ (top_four (get_or regs 16 0) ∷ [])

pub length_saves : (regs : List ℕ) → length (saves regs) ≡ length (take 16 regs) + 2
length_saves regs = omega (arith, length-append (take 16 regs) (top_four (get_or regs 16 0) ∷ []))

pub flags_last : (regs : List ℕ) → 16 ≤ length regs → get_or (saves regs) 17 0 ≡ top_four (get_or regs 16 0)
flags_last regs l =
    ap (λ (k : ℕ). get_or (take 16 regs ++ (top_four (get_or regs 16 0) ∷ [])) k 0) (sym (length-take-le 16 regs l))
    ∙ get_or-append_seam (take 16 regs) (top_four (get_or regs 16 0)) [] 0

pub kept_interrupt : (b : Machine) (M L regs : List ℕ) (t : ℕ) → header L running_word ≡ t + 1 → Accepted b M L
    → Accepted b (interrupt M L regs).mem (interrupt M L regs).led
unfolding interrupt
kept_interrupt b M L regs t e ok =
    let r = runs ok t e in
    let vs = saves regs in
    let size = length_saves regs in
    let part = length-take 16 regs in
    let few : length vs ≤ 18 = omega arith in
    let here = word_here ok r.below r.is_thread r.of_final vs few in
    let old = (ok.rules.pages (running L) r.below).layout.is_thread r.is_thread in
    let down : rec (puts L (running L) 3 vs) (running L) 3 ≡ 1 = here 3 (omega arith) (omega arith) in
    rewrite_kept ok r.below r.is_thread r.of_final vs few 0 (omega arith)
    (⊎_elim (λ l. rw (word_past ok r.below r.is_thread r.of_final vs few 20 (omega arith)) old.flags)
    (λ l. rw (here 20 (omega arith) (omega arith) ∙ flags_last regs l) (omega arith))
    (lt_or_ge (length regs) 16))
    (λ z. absurd (omega arith))
    (λ u s. absurd (omega arith))
