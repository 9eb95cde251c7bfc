-- Bytes as hexadecimal digits, two for each byte.
use Rattle.std.specs.Prelude.{ℕ, Bool, ◌+◌, ◌-◌, ◌*◌, ◌/◌, ◌%◌, cond, ◌&&◌, List, [], ◌∷◌, Some, None, codes, Option, nat_le, nat_lt}
use Rattle.std.specs.List.{flat_map, list_all}
use Rattle.std.specs.Option.{option_map}
use Rattle.std.specs.Str.{bytes_eq}

-- the digit of a number below 16: 0 to 9, then a to f
abbrev pub hex_character : ℕ → ℕ
hex_character v = cond (nat_lt v 10) (v + 48) (v + 87)

-- the number of a digit, in either case; 16 where it is none
abbrev pub hex_value : ℕ → ℕ
hex_value c = cond (nat_le 48 c && nat_le c 57) (c - 48) (cond (nat_le 97 c && nat_le c 102) (c - 87) (cond (nat_le 65 c && nat_le c 70) (c - 55) 16))

-- whether each of some characters is a digit
abbrev pub all_hex : List ℕ → Bool
all_hex hex = list_all (λ c. nat_lt (hex_value c) 16) hex

-- the two digits of a byte
abbrev pub two_digits : ℕ → List ℕ
two_digits b = hex_character (b / 16) ∷ hex_character (b % 16) ∷ []

-- the digits of some bytes
abbrev pub hex_text : List ℕ → List ℕ
hex_text bytes = flat_map two_digits bytes

-- the bytes that some digits write, two for each, if they are so many and each is a digit
abbrev pub hex_bytes : List ℕ → Option (List ℕ)
hex_bytes [] = Some []
hex_bytes (c ∷ []) = None
hex_bytes (high ∷ low ∷ rest) =
    cond (nat_lt (hex_value high) 16 && nat_lt (hex_value low) 16) (option_map (λ bytes. (hex_value high * 16 + hex_value low) ∷ bytes) (hex_bytes rest)) None

-- the bytes that a word names: digits, or '-' for no bytes
abbrev pub bytes_named : List ℕ → Option (List ℕ)
bytes_named [] = None
bytes_named (c ∷ cs) = cond (bytes_eq (c ∷ cs) (codes "-")) (Some []) (hex_bytes (c ∷ cs))
