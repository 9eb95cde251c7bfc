-- Which words write bytes: those of an even number of characters, each of which is a digit. Digits and bytes write one number.
use Rattle.std.specs.Prelude.{◌≡◌, ℕ, ◌+◌, ◌*◌, ◌/◌, ◌%◌, ◌<◌, Bool, true, false, cond, ◌&&◌, List, [], ◌∷◌, map, length, Option, Some, None, is_some, Decides, ◌==◌, nat_lt, refl}
use Rattle.std.proofs.Common.{suc, sym, ap, ◌∙◌, true≢false, arith}
use Rattle.std.proofs.ByRecursion.{Decides-by_and}
use Rattle.std.proofs.lemmas.Bool.Decides.{Decides-ltb, nat_tests}
use Rattle.std.proofs.lemmas.List.Concat.{flat_map-cons}
use Rattle.std.specs.Int.Digits.{number_from_digits, number_from_digits_after, AllBelowBase}
use Rattle.std.specs.List.{AllByRecursion}
use Rattle.std.specs.Option.{option_map}
use Rattle.hexadecimal.specs.Hex.{hex_character, hex_value, all_hex, two_digits, hex_text, hex_bytes}

pub all_hex_decides : (hex : List ℕ) → Decides (all_hex hex) (AllByRecursion (λ c. hex_value c < 16) hex)
all_hex_decides = Decides-by_and (λ c. nat_lt (hex_value c) 16) (λ c. hex_value c < 16) all_hex (λ c. Decides-ltb (hex_value c) 16) refl (λ _ _. refl)

mapped : {X Y : Type 0} (f : X → Y) (o : Option X) → is_some (option_map f o) ≡ is_some o
mapped f None = refl
mapped f (Some x) = refl

pair : (h l all even : Bool) (o : Option (List ℕ)) → is_some o ≡ (even && all) → is_some (cond (h && l) o None) ≡ (even && (h && (l && all)))
pair true true all even o is = is
pair true false all even o is = none even
  where
    none : (b : Bool) → false ≡ (b && false)
    none true = refl
    none false = refl
pair false l all even o is = none even
  where
    none : (b : Bool) → false ≡ (b && false)
    none true = refl
    none false = refl

two_more : (n : ℕ) → (suc (suc n) % 2 == 0) ≡ (n % 2 == 0)
two_more n = ap (λ m. m == 0) (omega arith)

pub bytes_are_written_by_pairs_of_digits : (hex : List ℕ) → is_some (hex_bytes hex) ≡ (length hex % 2 == 0 && all_hex hex)
bytes_are_written_by_pairs_of_digits [] = refl
bytes_are_written_by_pairs_of_digits (c ∷ []) = refl
bytes_are_written_by_pairs_of_digits (high ∷ low ∷ rest) =
    let more = option_map (λ bytes. (hex_value high * 16 + hex_value low) ∷ bytes) (hex_bytes rest) in
    pair (nat_lt (hex_value high) 16) (nat_lt (hex_value low) 16) (all_hex rest) (suc (suc (length rest)) % 2 == 0) more
    (mapped _ (hex_bytes rest) ∙ bytes_are_written_by_pairs_of_digits rest ∙ ap (λ b. b && all_hex rest) (sym (two_more (length rest))))

abbrev or_none : Option (List ℕ) → List ℕ
or_none None = []
or_none (Some bytes) = bytes

no_bytes : {A : Type 0} (bytes : List ℕ) → None ≡ Some bytes → A
no_bytes bytes e = absurd (true≢false (sym (ap is_some e)))

-- behind the same digits, the bytes that some digits write are the same number as these, and half as many
written_after : (n : ℕ) (hex bytes : List ℕ) → hex_bytes hex ≡ Some bytes
    → (number_from_digits_after 256 n bytes ≡ number_from_digits_after 16 n (map hex_value hex)) × (2 * length bytes ≡ length hex)
written_after n [] bytes e = (
  ap (number_from_digits_after 256 n) (sym (ap or_none e)),
  ap (λ bs. 2 * length bs) (sym (ap or_none e)),
)
written_after n (c ∷ []) bytes e = no_bytes bytes e
written_after n (high ∷ low ∷ rest) bytes e =
    by (nat_lt (hex_value high) 16 && nat_lt (hex_value low) 16) (hex_bytes rest) refl e (λ m more is. written_after m rest more is)
  where
    by : (digits : Bool) (o : Option (List ℕ)) → hex_bytes rest ≡ o
        → cond digits (option_map (λ more. (hex_value high * 16 + hex_value low) ∷ more) o) None ≡ Some bytes
        → ((m : ℕ) (more : List ℕ) → hex_bytes rest ≡ Some more → (number_from_digits_after 256 m more ≡ number_from_digits_after 16 m (map hex_value rest)) × (2 * length more ≡ length rest))
        → (number_from_digits_after 256 n bytes ≡ number_from_digits_after 16 n (map hex_value (high ∷ low ∷ rest))) × (2 * length bytes ≡ length (high ∷ low ∷ rest))
    by false o is e behind = no_bytes bytes e
    by true None is e behind = no_bytes bytes e
    by true (Some more) is e behind =
        let value = hex_value high * 16 + hex_value low in
        let whole : bytes ≡ value ∷ more = sym (ap or_none e) in
        let after = behind (n * 256 + value) more is in
        let same : n * 256 + value ≡ (n * 16 + hex_value high) * 16 + hex_value low = omega arith in (
          ap (number_from_digits_after 256 n) whole ∙ after.0 ∙ ap (λ m. number_from_digits_after 16 m (map hex_value rest)) same,
          omega (arith, ap length whole, after.1),
        )

-- the bytes that digits write are those of the number that the digits write, two digits for each
pub bytes_write_the_number_of_the_digits : (hex bytes : List ℕ) → hex_bytes hex ≡ Some bytes
    → (number_from_digits 256 bytes ≡ number_from_digits 16 (map hex_value hex)) × (2 * length bytes ≡ length hex)
bytes_write_the_number_of_the_digits hex bytes e = written_after 0 hex bytes e

value_of_character : (v : ℕ) → v < 16 → hex_value (hex_character v) ≡ v
value_of_character v small = grind (arith, nat_tests)

-- behind the same digits, the digits of some bytes are the same number as these, and twice as many
printed_after : (n : ℕ) (bytes : List ℕ) → AllBelowBase 256 bytes
    → (number_from_digits_after 16 n (map hex_value (hex_text bytes)) ≡ number_from_digits_after 256 n bytes) × (length (hex_text bytes) ≡ 2 * length bytes)
printed_after n [] below = (refl, refl)
printed_after n (b ∷ bytes) below =
    let more = flat_map-cons two_digits b bytes in
    let high = value_of_character (b / 16) (omega (arith, below.0)) in
    let low = value_of_character (b % 16) (omega arith) in
    let same : (n * 16 + hex_value (hex_character (b / 16))) * 16 + hex_value (hex_character (b % 16)) ≡ n * 256 + b = omega (arith, high, low) in
    let after = printed_after (n * 256 + b) bytes below.1 in (
      ap (λ digits. number_from_digits_after 16 n (map hex_value digits)) more
          ∙ ap (λ m. number_from_digits_after 16 m (map hex_value (hex_text bytes))) same
          ∙ after.0,
      omega (arith, ap length more, after.1),
    )

-- the digits of bytes are those of the number that the bytes write, two for each
pub digits_write_the_number_of_the_bytes : (bytes : List ℕ) → AllBelowBase 256 bytes
    → (number_from_digits 16 (map hex_value (hex_text bytes)) ≡ number_from_digits 256 bytes) × (length (hex_text bytes) ≡ 2 * length bytes)
digits_write_the_number_of_the_bytes bytes below = printed_after 0 bytes below
