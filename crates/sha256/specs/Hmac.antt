-- HMAC by SHA-256 as FIPS 198-1, section 4, and RFC 2104 say it, for a key of at most 16 words and a text of whole words. Assumes nothing.
use Rattle.std.specs.Prelude.{ℕ, ◌-◌, List, ◌++◌, map, length, replicate}
use Rattle.sha256.specs.Sha256.{◌⊕◌, sha256}

-- steps 1 and 3: the key with zeros to a block
unfoldable pub K0 : List ℕ → List ℕ
K0 key = key ++ replicate (16 - length key) 0

-- steps 4 and 7: a block of words, each xor the pad's
unfoldable pub masked : List ℕ → ℕ → List ℕ
masked k p = map (λ w. w ⊕ p) k

-- 2.3: the inner pad, the byte 36 repeated
abbrev pub ipad : ℕ
ipad = 0x36363636

-- 2.3: the outer pad, the byte 5c repeated
abbrev pub opad : ℕ
opad = 0x5c5c5c5c

-- steps 4 to 9: H((K0 xor opad) || H((K0 xor ipad) || text))
unfoldable pub hmac : List ℕ → List ℕ → List ℕ
hmac key text = sha256 (masked (K0 key) opad ++ sha256 (masked (K0 key) ipad ++ text))
