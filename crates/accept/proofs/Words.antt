-- A slice that shows the words of a page, of its record, or of the header. Assumes nothing.
use Prim.Native.Nat.{ℕ, ◌+◌, ◌-◌, ◌*◌, ◌≤◌, ◌<◌}
use mathlib.Core.Path.{◌≡◌, refl, sym, ◌∙◌}
use mathlib.Core.Bool.{Bool, true, false}
use mathlib.Core.List.{List}
use native.Mathlib.Omega.{arith}
use lib.ListN.{length, get_or, take, drop, length-take, length-drop}
use lib.Seq.{get_or-drop, get_or-take}
use Rattle.words.specs.Words.{record_words, Says}
use Rattle.words.proofs.Says.{says_same}
use Rattle.machine.specs.declared.Machine.{Machine}
use Rattle.machine.specs.Machine.{frame_words, header_words}
use Rattle.mapping.specs.Mapping.{well_formed}
use Rattle.ledger.specs.Ledger.{header, rec}
use Rattle.memory.specs.Memory.{frame, words_of}
use Rattle.memory.proofs.Frames.{length_words_of, words_of_at}
use Rattle.accept.specs.Accept.{Zeros}
use Rattle.accept.specs.Checks.{Here}

-- ws are the first n words of r
pub record Shows (ws : List ℕ) (r : ℕ → ℕ) (n : ℕ) : Type 0 where
  pub size : length ws ≡ n
  pub at : (k : ℕ) → k < n → get_or ws k 0 ≡ r k

pub page_shown : (M : List ℕ) (f : ℕ) {ws : List ℕ} → frame_words * f + frame_words ≤ length M → ws ≡ words_of M f → Shows ws (frame M f) frame_words
page_shown M f l e = rw e (record { size = length_words_of M f l; at = words_of_at M f })

pub here_shown : {b : Machine} {M L : List ℕ} {p : ℕ} {ws : List ℕ} → Here b M L p → ws ≡ words_of M (b.secure + p)
    → Shows ws (frame M (b.secure + p)) frame_words
here_shown {b} {M} {p = p} h e = page_shown M (b.secure + p) (omega (arith, h.lent.memory, h.lent.fits.secure_below, h.below)) e

-- the first m of the words shown
pub first_shown : {ws : List ℕ} {r : ℕ → ℕ} {n : ℕ} (m : ℕ) → Shows ws r n → m ≤ n → Shows (take m ws) r m
first_shown {ws} m s l =
    record {
      size = simp length-take (omega (arith, s.size));
      at = λ k h. get_or-take m ws k 0 h ∙ s.at k (omega arith);
    }

-- a part of a list: n words from word a on
pub part_shown : (ws : List ℕ) (a n : ℕ) → a + n ≤ length ws → Shows (take (a + n - a) (drop a ws)) (λ k. get_or ws (a + k) 0) n
part_shown ws a n l =
    let d : a + n - a ≡ n = omega arith in
    rw d
    (record {
      size = simp (length-take, length-drop) (omega arith);
      at = λ k h. get_or-take n (drop a ws) k 0 h ∙ get_or-drop a ws k 0;
    })

-- a part of the ledger: n words of page p's record, and the header
pub record_shown : (L : List ℕ) (p n : ℕ) → header_words + record_words * p + n ≤ length L
    → Shows (take (header_words + record_words * p + n - (header_words + record_words * p)) (drop (header_words + record_words * p) L)) (rec L p) n
unfolding rec
record_shown L p n l = part_shown L (header_words + record_words * p) n l

pub header_shown : (L : List ℕ) → header_words ≤ length L → Shows (take header_words (drop 0 L)) (header L) header_words
unfolding header
header_shown L l = record { size = simp length-take (omega arith); at = λ k h. get_or-take header_words L k 0 h }

module _ {ws : List ℕ} {r : ℕ → ℕ} {n : ℕ} (s : Shows ws r n) (lo : ℕ) where
  pub to_zeros : ((k : ℕ) → lo ≤ k → k < length ws → get_or ws k 0 ≡ 0) → Zeros r lo n
  to_zeros z k l u = sym (s.at k u) ∙ z k l (omega (arith, s.size))

  pub from_zeros : Zeros r lo n → (k : ℕ) → lo ≤ k → k < length ws → get_or ws k 0 ≡ 0
  from_zeros z k l u = let h : k < n = omega (arith, s.size) in s.at k h ∙ z k l h

  -- a test of the slice is one of the words that it shows
  pub says_zeros : (q : Bool) → Says q ((k : ℕ) → lo ≤ k → k < length ws → get_or ws k 0 ≡ 0) → Says q (Zeros r lo n)
  says_zeros q = says_same q to_zeros from_zeros

-- an answer that is known either way
pub says_by : {C : Type 0} (q : Bool) → (q ≡ true → C) → (q ≡ false → C → ⊥) → Says q C
says_by true to from = to refl
says_by false to from = from refl

-- ---- a test of what a slice shows is a test of the words
pub test_is : (f : ℕ → Bool) {r t : Bool} {x y : ℕ} → r ≡ f x → x ≡ y → r ≡ t → f y ≡ t
test_is f e q g = cc

pub formed_is : {r t : Bool} {x y : ℕ} → r ≡ well_formed x → x ≡ y → r ≡ t → well_formed y ≡ t
formed_is = test_is well_formed
