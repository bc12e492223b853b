-- From the lists that are lent to the views: what an accepted state gives, and what makes one. Assumes nothing.
use Prim.Native.Nat.{ℕ, ◌+◌, ◌*◌, ◌≤◌, ◌<◌}
use mathlib.Core.Path.{◌≡◌, sym, ◌∙◌}
use mathlib.Core.List.{List}
use mathlib.Core.Logic.{⊎_elim}
use native.Mathlib.Omega.{arith}
use lib.ListN.{length}
use Rattle.words.specs.Words.{record_words}
use Rattle.words.proofs.Cases.{same_or}
use Rattle.machine.specs.declared.Machine.{Machine}
use Rattle.machine.specs.Machine.{most_pages, frame_words, header_words, Insecure, map_words, map_start}
use Rattle.ledger.specs.Names.{running_word, free, space, building, stopped}
use Rattle.ledger.specs.Ledger.{header, rec, map_bit}
use Rattle.memory.specs.Memory.{frame, put_word}
use Rattle.memory.proofs.Frames.{put_word_other}
use Rattle.accept.specs.Accept.{Is, Tables, free_flag, Runs, HeaderOk, Rules, Accepted}
use Rattle.accept.proofs.Sums.{count_sum, measured_sum}
use Rattle.kept.proofs.Facts.Exact.{Exact, exact_says}

-- ---- what an accepted state gives
module _ {b : Machine} {M L : List ℕ} (ok : Accepted b M L) where
  pub exact : Exact b.pages L
  exact = record { few = ok.lent.fits.pages_high; size = ok.lent.ledger; map = ok.rules.header.free_map }

  -- a page's bit lies in the map
  pub bit_in : (p : ℕ) → p < b.pages → p < 32 * map_words
  bit_in p l = omega (arith, ok.lent.fits.pages_high)

  -- and says whether it is free
  pub bit_says : (p : ℕ) → p < 32 * map_words → map_bit L p ≡ free_flag b.pages (rec L) p
  unfolding map_bit
  bit_says = (exact_says exact).1

  -- a page's record lies in the ledger, its frame and an insecure frame in the memory
  pub record_in : (p : ℕ) → p < b.pages → header_words + record_words * p + record_words ≤ length L
  record_in p l = omega (arith, ok.lent.ledger)

  pub page_in : (p : ℕ) → p < b.pages → frame_words * (b.secure + p) + frame_words ≤ length M
  page_in p l = omega (arith, ok.lent.memory, ok.lent.fits.secure_below)

  pub frame_in : (f : ℕ) → Insecure b f → frame_words * f + frame_words ≤ length M
  frame_in f i = omega (arith, ok.lent.memory, i.below)

  module _ {a : ℕ} (al : a < b.pages) (type : rec L a 0 ≡ space) where
    pub is_space : Is b (rec L) a space a
    is_space = record { below = al; type = type; own = ((ok.rules.pages a al).layout.is_space type).itself }

    -- counts are far from wrapping
    pub count_small : rec L a 4 ≤ most_pages
    count_small = omega (arith, (ok.rules.spaces a al type).count, count_sum b.pages (rec L) a, ok.lent.fits.pages_high)

    pub blocks_few : rec L a 5 ≤ 65 * b.pages
    blocks_few =
        let s = ok.rules.spaces a al type in
        ⊎_elim (λ z. omega (arith, s.blocks z, measured_sum b.pages (rec L) a)) s.room (same_or (rec L a 3) building)

    -- its tables, while it is not stopped
    pub tables_of : (rec L a 3 ≡ stopped → ⊥) → Tables b (rec L) (frame M) a
    tables_of = (ok.rules.spaces a al type).tables

  -- a page in use has a space as owner
  pub owner_space : (p : ℕ) → p < b.pages → (rec L p 0 ≡ free → ⊥) → Is b (rec L) (rec L p 1) space (rec L p 1)
  owner_space p l used = let o = (ok.rules.pages p l).owner used in is_space o.0 o.1

  -- ---- what makes one
  pub accepted : {M' L' : List ℕ} → length M' ≡ length M → length L' ≡ length L → Rules b (header L') (rec L') (frame M') → Accepted b M' L'
  accepted memory ledger rules =
      record {
        lent = record { fits = ok.lent.fits; memory = memory ∙ ok.lent.memory; ledger = ledger ∙ ok.lent.ledger };
        rules = rules;
      }

  -- the header, where the words past the map stay
  pub header_by : {L' : List ℕ} → Exact b.pages L' → ((k : ℕ) → map_start + map_words ≤ k → k < header_words → header L' k ≡ header L k)
      → ((t : ℕ) → header L' running_word ≡ t + 1 → Runs b (rec L') t) → HeaderOk b (header L') (rec L')
  header_by ex rest runs =
      record { runs = runs; free_map = ex.map; rest = λ k lo hi. rest k lo hi ∙ ok.rules.header.rest k lo hi }

  -- and the running word too
  pub header_kept : {L' : List ℕ} → Exact b.pages L' → header L' running_word ≡ header L running_word
      → ((k : ℕ) → map_start + map_words ≤ k → k < header_words → header L' k ≡ header L k)
      → ((t : ℕ) → Runs b (rec L) t → Runs b (rec L') t)
      → HeaderOk b (header L') (rec L')
  header_kept ex first rest runs = header_by ex rest (λ t e. runs t (ok.rules.header.runs t (sym first ∙ e)))

-- ---- a memory that differs in word i of page f alone: at any other word
pub word_other : (M : List ℕ) (s f i v q k : ℕ) → i < frame_words → k < frame_words → (q ≡ f → k ≡ i → ⊥)
    → frame (put_word M (s + f) i v) (s + q) k ≡ frame M (s + q) k
word_other M s f i v q k il kl n = put_word_other M (s + f) i v (s + q) k (λ e. n (omega arith) (omega arith))
