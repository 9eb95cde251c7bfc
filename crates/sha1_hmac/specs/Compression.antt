-- FIPS 180-4, sections 4.2.1, 5.3.1 and 6.1.2: a block of 64 bytes is worked into a hash value of five words.
use Rattle.std.specs.Prelude.{ℕ, zero, suc, ◌+◌, ◌-◌, ◌*◌, ◌^◌, cond, List, [], ◌∷◌, ◌++◌, bit_xor, nat_lt, slice_index}
use Rattle.sha1_hmac.specs.Words.{plus, rotl, choice, parity, majority}

-- H⁽⁰⁾
abbrev pub initial : List ℕ
initial = 0x67452301 ∷ 0xefcdab89 ∷ 0x98badcfe ∷ 0x10325476 ∷ 0xc3d2e1f0 ∷ []

-- f_t
abbrev pub function : ℕ → ℕ → ℕ → ℕ → ℕ
function t = cond (nat_lt t 20) choice (cond (nat_lt t 40) parity (cond (nat_lt t 60) majority parity))

-- K_t
abbrev pub constant : ℕ → ℕ
constant t = cond (nat_lt t 20) 0x5a827999 (cond (nat_lt t 40) 0x6ed9eba1 (cond (nat_lt t 60) 0x8f1bbcdc 0xca62c1d6))

-- the word of the four bytes from i on, the most significant first
unfoldable pub big_endian : List ℕ → ℕ → ℕ
big_endian bs i = slice_index bs i * 2 ^ 24 + slice_index bs (i + 1) * 2 ^ 16 + slice_index bs (i + 2) * 2 ^ 8 + slice_index bs (i + 3)

-- ROTL¹ of the exclusive or of four words
unfoldable pub mixed : ℕ → ℕ → ℕ → ℕ → ℕ
mixed x y z w = rotl 1 (bit_xor (bit_xor (bit_xor x y) z) w)

-- the word that follows W_0 .. W_{t-1}: one of the block's own sixteen, and from 16 on a mix of four before it
unfoldable pub next : List ℕ → List ℕ → ℕ → ℕ
next block ws t = cond (nat_lt t 16) (big_endian block (4 * t)) (mixed (slice_index ws (t - 3)) (slice_index ws (t - 8)) (slice_index ws (t - 14)) (slice_index ws (t - 16)))

-- the message schedule's first words, W_0 .. W_{t-1}
unfoldable pub schedule : List ℕ → ℕ → List ℕ
schedule block zero = []
schedule block (suc t) = schedule block t ++ next block (schedule block t) t ∷ []

-- W_t
unfoldable pub scheduled : List ℕ → ℕ → ℕ
scheduled block t = slice_index (schedule block (suc t)) t

-- one round over the working variables a, b, c, d and e, with a function f, a constant k and a word w
unfoldable pub round : (ℕ → ℕ → ℕ → ℕ) → ℕ → ℕ → List ℕ → List ℕ
round f k w s =
    plus (plus (plus (plus (rotl 5 (slice_index s 0)) (f (slice_index s 1) (slice_index s 2) (slice_index s 3))) (slice_index s 4)) k) w
    ∷ slice_index s 0 ∷ rotl 30 (slice_index s 1) ∷ slice_index s 2 ∷ slice_index s 3 ∷ []

-- the rounds 0 .. t-1
unfoldable pub rounds : List ℕ → ℕ → List ℕ → List ℕ
rounds block zero s = s
rounds block (suc t) s = round (function t) (constant t) (scheduled block t) (rounds block t s)

-- the five sums of two hash values
abbrev pub sums : List ℕ → List ℕ → List ℕ
sums s h = plus (slice_index s 0) (slice_index h 0) ∷ plus (slice_index s 1) (slice_index h 1) ∷ plus (slice_index s 2) (slice_index h 2) ∷ plus (slice_index s 3) (slice_index h 3) ∷ plus (slice_index s 4) (slice_index h 4) ∷ []

-- H⁽ⁱ⁾ of H⁽ⁱ⁻¹⁾ and a block
unfoldable pub compress : List ℕ → List ℕ → List ℕ
compress h block = sums (rounds block 80 h) h
