-- FIPS 180-4, sections 5.1.1, 5.2.1 and 6.1: the digest of a message, which is a list of bytes.
use Rattle.std.specs.Prelude.{ℕ, zero, suc, ◌-◌, ◌*◌, ◌/◌, ◌%◌, ◌^◌, List, [], ◌∷◌, ◌++◌, length, take, drop, replicate}
use Rattle.std.specs.List.{flat_map}
use Rattle.sha1_hmac.specs.Compression.{initial, compress}

-- the block M⁽ⁱ⁾, counted from 0
abbrev pub block : List ℕ → ℕ → List ℕ
block message i = take 64 (drop (64 * i) message)

-- the hash value h after n blocks more, the first n of the bytes
abbrev pub compress_all : List ℕ → List ℕ → ℕ → List ℕ
compress_all h bytes zero = h
compress_all h bytes (suc n) = compress (compress_all h bytes n) (block bytes n)

-- the hash value after the first n blocks
abbrev pub hashed : List ℕ → ℕ → List ℕ
hashed message n = compress_all initial message n

-- a number of 64 bits as eight bytes, the most significant first
abbrev pub eight_bytes : ℕ → List ℕ
eight_bytes n = (n / 2 ^ 56 % 256) ∷ (n / 2 ^ 48 % 256) ∷ (n / 2 ^ 40 % 256) ∷ (n / 2 ^ 32 % 256) ∷ (n / 2 ^ 24 % 256) ∷ (n / 2 ^ 16 % 256) ∷ (n / 2 ^ 8 % 256) ∷ (n % 256) ∷ []

-- how many bytes of zeros stand between the byte 128 and the length, at a message of n bytes
abbrev pub zeros : ℕ → ℕ
zeros n = (119 - n % 64) % 64

-- what is appended to a message of n bytes: a bit 1, bits 0, and the length in bits, modulo 2 ^ 64,
-- which is the length itself for every message below 2 ^ 61 bytes, as the standard has them
unfoldable pub padding : ℕ → List ℕ
padding n = 128 ∷ (replicate (zeros n) 0 ++ eight_bytes (8 * n % 2 ^ 64))

unfoldable pub padded : List ℕ → List ℕ
padded message = message ++ padding (length message)

-- a word as four bytes, the most significant first
abbrev pub four_bytes : ℕ → List ℕ
four_bytes w = (w / 2 ^ 24 % 256) ∷ (w / 2 ^ 16 % 256) ∷ (w / 2 ^ 8 % 256) ∷ (w % 256) ∷ []

-- the message digest: the bytes of the hash value after all blocks of the padded message
abbrev pub digest : List ℕ → List ℕ
digest message = flat_map four_bytes (hashed (padded message) (length (padded message) / 64))
