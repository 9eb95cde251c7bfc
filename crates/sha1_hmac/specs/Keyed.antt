-- RFC 2104: HMAC with SHA-1, whose blocks have 64 bytes.
use Rattle.std.specs.Prelude.{ℕ, ◌-◌, List, ◌++◌, map, length, replicate, bit_xor, cond, nat_le, Option, Some, None}
use Rattle.sha1_hmac.specs.Message.{digest}
use Rattle.sha1_hmac.specs.Stream.{Absorbed}
use Rattle.sha1_hmac.specs.declared.keyed.Hmac.{Hmac}

-- the key with zeros up to a block, and each byte xor the mask
unfoldable pub masked : ℕ → List ℕ → List ℕ
masked mask key = map (λ b. bit_xor b mask) (key ++ replicate (64 - length key) 0)

-- K xor ipad, and K xor opad
abbrev pub ipad : List ℕ → List ℕ
ipad key = masked 0x36 key

abbrev pub opad : List ℕ → List ℕ
opad key = masked 0x5c key

-- H(K xor opad, H(K xor ipad, text))
abbrev pub hmac_of : List ℕ → List ℕ → List ℕ
hmac_of key text = digest (opad key ++ digest (ipad key ++ text))

-- a key of at most 20 bytes, filled up with zeros
abbrev pub filled : List ℕ → List ℕ
filled key = key ++ replicate (20 - length key) 0

-- the key that some bytes stand for, where they are at most 20
abbrev pub key_from : List ℕ → Option (List ℕ)
key_from bytes = cond (nat_le (length bytes) 20) (Some (filled bytes)) None

-- The state has absorbed the text under the key.
abbrev pub Authenticates : Hmac → List ℕ → List ℕ → Type 0
Authenticates state key text = Absorbed state.inner (ipad key ++ text) × Absorbed state.outer (opad key)
