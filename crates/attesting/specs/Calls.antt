-- Document 01, "Calls, checks left to right": calls 32-34, asked by the running enclave: a random word, a MAC and the test of one.
-- Assumes nothing.
use Rattle.std.specs.Prelude.{ℕ, Bool, true, false, ◌&&◌, List, [], ◌∷◌, ◌++◌, eqb}
use Rattle.words.specs.Words.{pick}
use Rattle.sha256.specs.Hmac.{hmac}
use Rattle.ledger.specs.Ledger.{key, hash, eight}
use Rattle.answer.specs.declared.Answer.TheVariants.{Attested}
use Rattle.answer.specs.Answer.{Out, answers, gives, owner}

-- ---- 32 GetRandom w (from hardware): w
unfoldable pub get_random : List ℕ → List ℕ → ℕ → Out
get_random M L w = gives w M L

-- ---- 33 Attest 8 words: "The MAC is HMAC-SHA256 by the key over measurement then data (64 bytes)."
unfoldable pub mac : List ℕ → List ℕ → List ℕ → List ℕ
mac L measurement text = eight (hmac (key L) (measurement ++ text))

unfoldable pub attest : List ℕ → List ℕ → List ℕ → Out
attest M L text = answers (Attested (mac L (hash L (owner L)) text)) M L

-- ---- 34 Verify data 8, measurement 8, MAC 8: 1 or 0
unfoldable pub same_words : List ℕ → List ℕ → Bool
same_words [] [] = true
same_words [] (y ∷ ys) = false
same_words (x ∷ xs) [] = false
same_words (x ∷ xs) (y ∷ ys) = eqb x y && same_words xs ys

unfoldable pub verify : List ℕ → List ℕ → List ℕ → List ℕ → List ℕ → Out
verify M L text measurement claim =
    gives (pick (same_words (mac L measurement text) claim) 1 0) M L
