-- Demand 2: "attestations HMAC-SHA256". That nothing but such a MAC is answered 1 is said of the words handed in; that nobody else can make
-- them is not promised. Assumes nothing.
use Rattle.std.specs.Prelude.{ℕ, ◌≡◌, List, [], ◌∷◌, ◌++◌}
use Rattle.machine.specs.declared.Machine.{Machine}
use Rattle.sha256.specs.Hmac.{hmac}
use Rattle.ledger.specs.Ledger.{key, hash}
use Rattle.accept.specs.Accept.{Accepted}
use Rattle.records.specs.Records.{args}
use Rattle.batch.specs.Batch.{obey}
use Rattle.promises.specs.Terms.{Did, Running}
use Rattle.promises.specs.Kept.{History}

-- Attest answers the HMAC, by the key, of the running space's measurement and the eight words of data
abbrev pub AttestIsHmac : Type 0
AttestIsHmac =
    (b : Machine) (M L W : List ℕ) (a : ℕ) → Running L a → Did b M L W 33
    → (obey b M L W).ans ≡ 0 ∷ hmac (key L) (hash L a ++ args W 1 8)

-- Verify answers 1 exactly when its last eight words are that HMAC of the measurement and the data that it is handed
pub record Verifies (L W answer : List ℕ) : Type 0 where
  pub yes : args W 17 8 ≡ hmac (key L) (args W 9 8 ++ args W 1 8) → answer ≡ 0 ∷ 1 ∷ []
  pub no : (args W 17 8 ≡ hmac (key L) (args W 9 8 ++ args W 1 8) → ⊥) → answer ≡ 0 ∷ 0 ∷ []

abbrev pub VerifyIsHmac : Type 0
VerifyIsHmac = (b : Machine) (M L W : List ℕ) → Did b M L W 34 → Verifies L W (obey b M L W).ans

-- the key never changes
abbrev pub KeyStays : Type 0
KeyStays = (b : Machine) (M₀ L₀ M L : List ℕ) → Accepted b M₀ L₀ → History b M₀ L₀ M L → key L ≡ key L₀

-- so what Attest answered is answered 1 by Verify, with the same data and that measurement, at every later moment, whoever runs
abbrev pub AttestedIsVerified : Type 0
AttestedIsVerified =
    (b : Machine) (M L W M' L' X : List ℕ) (a : ℕ) → Accepted b M L → Running L a → Did b M L W 33 → History b M L M' L' → Did b M' L' X 34
    → args X 1 8 ≡ args W 1 8 → args X 9 8 ≡ hash L a → 0 ∷ args X 17 8 ≡ (obey b M L W).ans → (obey b M' L' X).ans ≡ 0 ∷ 1 ∷ []
