-- Demand 2, by cases that others have worked: box A's shift, row by row, and the published vectors of SHA-256 and of HMAC. Assumes nothing.
use Rattle.std.specs.Prelude.{ℕ, ◌≡◌, List, [], ◌∷◌, length}
use Rattle.sha256.specs.Sha256.{H0, compress}
use Rattle.sha256.specs.Hmac.{hmac}
use Rattle.ledger.specs.Names.{key_words}
use Rattle.box_a.specs.Shift.{Shift}

-- document 01, "A shift on box A": every row, for any key and whatever word the memory held throughout
abbrev pub ShiftIsPlayed : Type 0
ShiftIsPlayed = (key : List ℕ) (v : ℕ) → length key ≡ key_words → Shift key v

-- FIPS 180-4's example "abc": 24 bits, and so one padded block
abbrev pub AbcIsPublished : Type 0
AbcIsPublished =
    compress H0 (0x61626380 ∷ 0 ∷ 0 ∷ 0 ∷ 0 ∷ 0 ∷ 0 ∷ 0 ∷ 0 ∷ 0 ∷ 0 ∷ 0 ∷ 0 ∷ 0 ∷ 0 ∷ 24 ∷ [])
    ≡ 0xba7816bf ∷ 0x8f01cfea ∷ 0x414140de ∷ 0x5dae2223 ∷ 0xb00361a3 ∷ 0x96177a9c ∷ 0xb410ff61 ∷ 0xf20015ad ∷ []

-- RFC 4231, case 2: the key "Jefe", the text "what do ya want for nothing?"
abbrev pub JefeIsPublished : Type 0
JefeIsPublished =
    hmac (0x4a656665 ∷ [])
    (0x77686174 ∷ 0x20646f20 ∷ 0x79612077 ∷ 0x616e7420 ∷ 0x666f7220 ∷ 0x6e6f7468 ∷ 0x696e673f ∷ [])
    ≡ 0x5bdcc146 ∷ 0xbf60754e ∷ 0x6a042426 ∷ 0x089575c7 ∷ 0x5a003f08 ∷ 0x9d273983 ∷ 0x9dec58b9 ∷ 0x64ec3843 ∷ []
