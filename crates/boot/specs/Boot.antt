-- Document 01: "Boot takes 8 key words: a fresh ledger with all pages free, secure frames zero, other frames unchanged." Assumes nothing.
use Rattle.std.specs.Prelude.{ℕ, ◌+◌, ◌-◌, ◌*◌, ◌≡◌, List, ◌∷◌, ◌++◌, length, replicate}
use Rattle.words.specs.Words.{record_words, list_below, paste}
use Rattle.machine.specs.declared.Machine.{Machine}
use Rattle.machine.specs.Machine.{frame_words, header_words, map_start, map_words, Lent}
use Rattle.ledger.specs.Names.{key_words}
use Rattle.answer.specs.Refusals.{ill_fitting}
use Rattle.accept.specs.Accept.{map_word}

-- word j of the free map where all pages are free
unfoldable pub fresh_map : Machine → ℕ → ℕ
fresh_map b j = map_word b.pages (λ p k. 0) j

-- nobody runs, the key, the free map, zeros; then a record of zeros for each page
unfoldable pub fresh_ledger : Machine → List ℕ → List ℕ
fresh_ledger b key =
    0 ∷ key ++ (list_below map_words (fresh_map b) ++ replicate (header_words - (map_start + map_words) + record_words * b.pages) 0)

-- the secure frames zero
unfoldable pub fresh_memory : Machine → List ℕ → List ℕ
fresh_memory b M = paste M (frame_words * b.secure) (frame_words * b.pages) (replicate (frame_words * b.pages) 0)

-- ---- the service: what is lent fits, with 8 key words; from memory M and ledger L it answers r and leaves M' and L'
pub record BootFits (b : Machine) (key M L : List ℕ) : Type 0 where
  pub lent : Lent b M L
  pub has_key_words : length key ≡ key_words

pub data Booted (b : Machine) (key M L : List ℕ) (r : ℕ) (M' L' : List ℕ) : Type 0 where
  done : BootFits b key M L → r ≡ 0 → M' ≡ fresh_memory b M → L' ≡ fresh_ledger b key → Booted b key M L r M' L'
  not_fitting : (BootFits b key M L → ⊥) → r ≡ ill_fitting → M' ≡ M → L' ≡ L → Booted b key M L r M' L'
