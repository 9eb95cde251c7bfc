-- The value of a key hash in 28 characters: Base64 of RFC 4648, canonical.
use Rattle.std.specs.Prelude.{◌≡◌, ℕ, ◌+◌, ◌-◌, ◌*◌, ◌/◌, ◌%◌, cond, ◌&&◌, List, [], ◌∷◌, ◌++◌, map, take, codes, Result, ◌==◌, nat_le, nat_lt, slice_index}
use Rattle.std.specs.List.{range_with_len}
use Rattle.std.specs.Int.Digits.{number_from_digits}
use Rattle.refusal.specs.declared.Refusal.{Refusal}
use Rattle.keyhash.specs.Canonical.{read_by}
use Rattle.keyhash.specs.Numeral.{numeral}

-- the character that stands for a number below 64: A to Z, a to z, 0 to 9, + and /
abbrev pub character : ℕ → ℕ
character v = cond (nat_lt v 26) (v + 65) (cond (nat_lt v 52) (v + 71) (cond (nat_lt v 62) (v - 4) (cond (v == 62) 43 47)))

-- the number that a character stands for; 64 where it stands for none
abbrev pub digit_of : ℕ → ℕ
digit_of c = cond (nat_le 65 c && nat_le c 90) (c - 65) (cond (nat_le 97 c && nat_le c 122) (c - 71) (cond (nat_le 48 c && nat_le c 57) (c + 4) (cond (c == 43) 62 (cond (c == 47) 63 64))))

-- five characters that stand for 0
abbrev pub padding : List ℕ
padding = codes "AAAAA"

-- the alphabet, in the order in which RFC 4648 prints it
abbrev pub AlphabetOfRfc4648 : Type 0
AlphabetOfRfc4648 = map character (range_with_len 0 64) ≡ codes "ABCDEFGHIJKLMNOPQRSTUVWXYZabcdefghijklmnopqrstuvwxyz0123456789+/"

-- the bit string of a hash: its 160 bits as one number, then two zero bits
abbrev pub bit_string : List ℕ → ℕ
bit_string hash = number_from_digits 256 hash * 4

-- the canonical text of a hash: the bit string cut into 27 digits of six bits, a character for each, then '='
unfoldable pub text : List ℕ → List ℕ
text hash = map character (numeral 64 27 (bit_string hash)) ++ 61 ∷ []

-- the hash that 27 characters spell: their digits as one bit string, less its last two bits
unfoldable pub spelled : List ℕ → List ℕ
spelled chars = numeral 256 20 (number_from_digits 64 (map digit_of (take 27 chars)) / 4)

-- the hash whose canonical text the bytes are; all other bytes are malformed
unfoldable pub reading : List ℕ → Result (List ℕ) Refusal
reading = read_by text spelled

-- the two bits that are left over in the last of 27 characters are not both zero
abbrev pub StrayBits : List ℕ → Type 0
StrayBits chars = digit_of (slice_index chars 26) % 4 ≡ 0 → ⊥
