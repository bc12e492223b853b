-- Published vectors, computed from the definitions: "abc" by `compress` on its padded block (FIPS 180-4's example), and HMAC with
-- the key "Jefe" and the text "what do ya want for nothing?" (RFC 4231, case 2). Assumes nothing.
use Rattle.std.proofs.Common.{◌≡◌, [], ◌∷◌, refl}
use Rattle.sha256.specs.Sha256.{K, zeros, length_words, padding, pad, block, H0, next_word, words, schedule, T1, moved, round, rounds, sum_of, compress, blocks, absorb, sha256}
use Rattle.sha256.specs.Hmac.{K0, masked, hmac}

pub abc : compress H0 (0x61626380 ∷ 0 ∷ 0 ∷ 0 ∷ 0 ∷ 0 ∷ 0 ∷ 0 ∷ 0 ∷ 0 ∷ 0 ∷ 0 ∷ 0 ∷ 0 ∷ 0 ∷ 24 ∷ [])
    ≡ 0xba7816bf ∷ 0x8f01cfea ∷ 0x414140de ∷ 0x5dae2223 ∷ 0xb00361a3 ∷ 0x96177a9c ∷ 0xb410ff61 ∷ 0xf20015ad ∷ []
unfolding K H0 next_word words schedule T1 moved round rounds sum_of compress
abc = refl

pub jefe : hmac (0x4a656665 ∷ [])
    (0x77686174 ∷ 0x20646f20 ∷ 0x79612077 ∷ 0x616e7420 ∷ 0x666f7220 ∷ 0x6e6f7468 ∷ 0x696e673f ∷ [])
    ≡ 0x5bdcc146 ∷ 0xbf60754e ∷ 0x6a042426 ∷ 0x089575c7 ∷ 0x5a003f08 ∷ 0x9d273983 ∷ 0x9dec58b9 ∷ 0x64ec3843 ∷ []
unfolding K zeros length_words padding pad block H0 next_word words schedule T1 moved round rounds sum_of compress blocks absorb sha256 K0 masked hmac
jefe = refl
