-- The runs of a payload: which of its words lie inside the image, and where in ledger and memory. Assumes nothing.
use Prim.Native.Nat.{ℕ, ◌+◌, ◌*◌, ◌^◌, ◌≤◌, ◌<◌}
use mathlib.Core.Path.{◌≡◌}
use mathlib.Core.List.{List}
use native.Mathlib.Omega.{arith}
use lib.ListN.{length}
use Rattle.words.specs.Words.{word_bits}
use Rattle.machine.specs.declared.Machine.{Machine}
use Rattle.machine.specs.Machine.{frame_words, Fits, Lent}
use Rattle.image.specs.Image.{ledger_words, secure_words, image_words, payload_words, total, total_word}
use Rattle.image.specs.Runs.{runs_of}
use Rattle.image.specs.declared.runs.Runs.{Runs}

-- the total: it holds the image, one block less does not; on the largest box it is 8,722, so that it and word 2 are words
pub total_holds : (b : Machine) → image_words b ≤ payload_words * total b
unfolding total
total_holds b = omega arith

pub total_least : (b : Machine) → payload_words * total b < image_words b + payload_words
unfolding total
total_least b = omega arith

pub total_most : (b : Machine) → Fits b → total b ≤ 8722
unfolding total
total_most b fits = omega (arith, fits.pages_high)

pub total_fits : (b : Machine) → Fits b → total b < 2 ^ word_bits
total_fits b fits = omega (arith, total_most b fits)

pub total_word_fits : (b : Machine) → Fits b → total_word b < 2 ^ word_bits
unfolding total_word
total_word_fits b fits = omega (arith, total_most b fits)

-- each block has words of the image
pub begins : (b : Machine) (j : ℕ) → j < total b → payload_words * j < image_words b
unfolding total
begins b j due = omega arith

module _ {r : Runs} (b : Machine) (j : ℕ) (is : r ≡ runs_of b j) where
  pub fits_payload : r.ledger + r.frames ≤ payload_words
  unfolding runs_of
  fits_payload = rw is (omega arith)

  -- the fill is what is past them
  pub past_runs : {i : ℕ} → i < payload_words → r.ledger + r.frames ≤ i → image_words b ≤ payload_words * j + i
  unfolding runs_of
  past_runs {i} l m = let m' = rw is at m in omega arith

  pub past_image : {i : ℕ} → image_words b ≤ payload_words * j + i → r.ledger + r.frames ≤ i
  unfolding runs_of
  past_image m = rw is (omega arith)

  -- ---- the ledger's words: inside, from the payload's place on, all up to the payload's end
  pub ledger_inside : r.from + r.ledger ≤ ledger_words b
  unfolding runs_of
  ledger_inside = rw is (omega arith)

  pub ledger_from : r.from ≤ payload_words * j
  unfolding runs_of
  ledger_from = rw is (omega arith)

  pub ledger_in : {k : ℕ} → k < r.ledger → r.from ≡ payload_words * j
  unfolding runs_of
  ledger_in {k} l = let l' = rw is at l in rw is (omega arith)

  pub ledger_past : {p : ℕ} → r.from + r.ledger ≤ p → p < ledger_words b → payload_words * j + payload_words ≤ p
  unfolding runs_of
  ledger_past {p} l m = let l' = rw is at l in omega arith

  -- ---- the same of the words of the secure frames
  pub frames_inside : payload_words * j < image_words b → r.first + r.frames ≤ secure_words b
  unfolding runs_of
  frames_inside l = rw is (omega arith)

  pub frames_from : {q : ℕ} → q < r.first → ledger_words b + q < payload_words * j
  unfolding runs_of
  frames_from {q} l = let l' = rw is at l in omega arith

  pub frames_in : {k : ℕ} → k < r.frames → ledger_words b + r.first ≡ payload_words * j + r.ledger
  unfolding runs_of
  frames_in {k} l = let l' = rw is at l in rw is (omega arith)

  pub frames_past : {q : ℕ} → r.first + r.frames ≤ q → q < secure_words b → payload_words * j + payload_words ≤ ledger_words b + q
  unfolding runs_of
  frames_past {q} l m = let l' = rw is at l in omega arith

-- ---- they lie inside what is lent, and in a payload
pub record RunsFit (b : Machine) (M L : List ℕ) (r : Runs) : Type 0 where
  pub in_ledger : r.from + r.ledger ≤ length L
  pub in_memory : frame_words * b.secure + r.first + r.frames ≤ length M
  pub in_payload : r.ledger + r.frames ≤ payload_words

pub runs_fit : {r : Runs} (b : Machine) (M L : List ℕ) (j : ℕ) → Lent b M L → j < total b → r ≡ runs_of b j → RunsFit b M L r
runs_fit b M L j lent due is =
    record {
      in_ledger = omega (arith, lent.ledger, ledger_inside b j is);
      in_memory = omega (arith, lent.memory, lent.fits.secure_below, frames_inside b j is (begins b j due));
      in_payload = fits_payload b j is;
    }
