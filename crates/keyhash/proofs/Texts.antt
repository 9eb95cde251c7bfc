-- The 28 characters of a hash, and the hash that 28 characters spell.
use Rattle.std.proofs.Common.{◌≡◌, ℕ, Bool, All, fold, nat_lt, Decides, ◌+◌, ◌*◌, ◌/◌, ◌%◌, ◌^◌, ◌<◌, true, ◌&&◌, eqb, List, [], ◌∷◌, ◌++◌, map, length, get_or, take, Ok, Err, sym, refl, ap, ◌∙◌, subst, arith, rules}
use Rattle.std.specs.Int.Digits.{number_from_digits, AllBelowBase}
use Rattle.std.proofs.lemmas.Int.Digits.{number_lt}
use Rattle.std.proofs.ByRecursion.{All-append, All-take}
use Rattle.std.proofs.lemmas.List.{map-append, length-map, length_push, length-append, length-take-le, take_at, take_all, take_more, get_or_at, get_or-map, get_or-take, get_or_append_left, append_assoc, append-nil}
use Rattle.std.proofs.lemmas.List.Elements.{All-from_recursion, recursion_from_All}
use Rattle.std.proofs.lemmas.Bool.Decides.{nat_tests, Decides-and, Decides-eqb, Decides-ltb}
use Rattle.refusal.specs.declared.Refusal.TheVariants.{Malformed}
use Rattle.keyhash.specs.Canonical.{KeyHash, Canonical}
use Rattle.keyhash.specs.Numeral.{numeral}
use Rattle.keyhash.specs.Base64.{character, digit_of, padding, bit_string, text, spelled, reading, StrayBits}
use Rattle.keyhash.proofs.Numbers.{length-numeral, under_numeral, numeral-step, number_of_numeral, numeral_of_number, number_next}
use Rattle.keyhash.proofs.Inverse as inverse

-- the test that goes over all digits
below_test : (start : Bool) (ds : List ℕ) → Decides (fold (λ all d. all && nat_lt d 64) start ds) ((start ≡ true) × AllBelowBase 64 ds)
below_test start [] = ((λ e. (e, tt)), (λ both. both.0))
below_test start (d ∷ ds) =
    let step = Decides-and start (nat_lt d 64) ((λ e. e), (λ e. e)) (Decides-ltb d 64) in
    let rest = below_test (start && nat_lt d 64) ds in
    ((λ e. let all = rest.0 e in let first = step.0 all.0 in (first.0, (first.1, all.1))), (λ all. rest.1 (step.1 (all.0, all.1.0), all.1.1)))

pub all_below_test : (ds : List ℕ) (all : Bool) → all ≡ fold (λ all d. all && nat_lt d 64) true ds → Decides all (All (λ d. d < 64) ds)
all_below_test ds all is =
    let test = below_test true ds in
    ((λ e. All-from_recursion (λ d. d < 64) ds (test.0 (sym is ∙ e)).1), (λ under. is ∙ test.1 (refl, recursion_from_All (λ d. d < 64) ds under)))

digit_of_character : (v : ℕ) → v < 64 → digit_of (character v) ≡ v
digit_of_character v h = grind (arith, nat_tests)

character_of_digit : (c : ℕ) → digit_of c < 64 → character (digit_of c) ≡ c
character_of_digit c h = grind (arith, nat_tests)

digits_of_characters : (ds : List ℕ) → AllBelowBase 64 ds → map digit_of (map character ds) ≡ ds
digits_of_characters [] u = refl
digits_of_characters (d ∷ ds) u = ap (λ x. x ∷ map digit_of (map character ds)) (digit_of_character d u.0) ∙ ap (λ xs. d ∷ xs) (digits_of_characters ds u.1)

characters_of_digits : (cs : List ℕ) → AllBelowBase 64 (map digit_of cs) → map character (map digit_of cs) ≡ cs
characters_of_digits [] u = refl
characters_of_digits (c ∷ cs) u = ap (λ x. x ∷ map character (map digit_of cs)) (character_of_digit c u.0) ∙ ap (λ xs. c ∷ xs) (characters_of_digits cs u.1)

-- the bit string of a hash has 162 bits
bit_string_lt : (hash : List ℕ) → KeyHash hash → bit_string hash < 64 ^ 27
bit_string_lt hash is =
    let n : number_from_digits 256 hash < 256 ^ 20 = subst (λ (k : ℕ). number_from_digits 256 hash < 256 ^ k) is.0 (number_lt 256 hash is.1) in
    omega arith

pub length-text : (hash : List ℕ) → length (text hash) ≡ 28
unfolding text
length-text hash =
    length_push (map character (numeral 64 27 (bit_string hash))) 61
    ∙ ap (λ n. n + 1) (length-map (numeral 64 27 (bit_string hash)) character ∙ length-numeral 64 27 (bit_string hash))

-- the first 27 characters of a text, whatever comes behind it
take-text : (hash rest : List ℕ) → take 27 (text hash ++ rest) ≡ map character (numeral 64 27 (bit_string hash))
unfolding text
take-text hash rest =
    let front = map character (numeral 64 27 (bit_string hash)) in
    let long : length front ≡ 27 = length-map (numeral 64 27 (bit_string hash)) character ∙ length-numeral 64 27 (bit_string hash) in
    ap (take 27) (append_assoc front (61 ∷ []) rest) ∙ take_at front (61 ∷ rest) 27 long

pub spelled_of_text : (hash rest : List ℕ) → KeyHash hash → spelled (text hash ++ rest) ≡ hash
unfolding spelled
spelled_of_text hash rest is =
    let front : map digit_of (take 27 (text hash ++ rest)) ≡ numeral 64 27 (bit_string hash) =
    ap (map digit_of) (take-text hash rest) ∙ digits_of_characters _ (under_numeral 64 27 (bit_string hash) (omega arith)) in
    let whole : number_from_digits 64 (map digit_of (take 27 (text hash ++ rest))) ≡ bit_string hash =
    ap (number_from_digits 64) front ∙ number_of_numeral 64 27 (bit_string hash) (omega arith) (bit_string_lt hash is) in
    let less : number_from_digits 64 (map digit_of (take 27 (text hash ++ rest))) / 4 ≡ number_from_digits 256 hash = omega arith in
    ap (numeral 256 20) less ∙ numeral_of_number 256 20 hash is.1 is.0

pub spelled_is_hash : (chars : List ℕ) → KeyHash (spelled chars)
unfolding spelled
spelled_is_hash chars = (length-numeral 256 20 _, under_numeral 256 20 _ (omega arith))

-- what 28 characters are that read as a hash
pub record Readable (chars : List ℕ) : Type 0 where
  pub alphabet : AllBelowBase 64 (map digit_of (take 27 chars))
  pub padded : get_or chars 27 0 ≡ 61
  pub no_stray : digit_of (get_or chars 26 0) % 4 ≡ 0

-- the last digit of a text holds four bits of the hash and two zero bits
last_digit : (hash : List ℕ) → numeral 64 27 (bit_string hash) ≡ numeral 64 26 (bit_string hash / 64) ++ bit_string hash % 64 ∷ []
last_digit hash = numeral-step 64 26 (bit_string hash)

pub text_readable : (hash : List ℕ) → Readable (text hash)
unfolding text
text_readable hash =
    let ds = numeral 64 27 (bit_string hash) in
    let under = under_numeral 64 27 (bit_string hash) (omega arith) in
    let long : length (map character ds) ≡ 27 = length-map ds character ∙ length-numeral 64 27 (bit_string hash) in
    let front : map digit_of (take 27 (map character ds ++ 61 ∷ [])) ≡ ds = ap (map digit_of) (take_at (map character ds) (61 ∷ []) 27 long) ∙ digits_of_characters ds under in
    let last : get_or ds 26 0 ≡ bit_string hash % 64 = ap (λ xs. get_or xs 26 0) (last_digit hash) ∙ get_or_at (numeral 64 26 (bit_string hash / 64)) (bit_string hash % 64) [] 0 26 (length-numeral 64 26 (bit_string hash / 64)) in
    let read : digit_of (get_or (map character ds ++ 61 ∷ []) 26 0) ≡ get_or ds 26 0 =
    ap digit_of (get_or_append_left (map character ds) (61 ∷ []) 0 26 (omega arith))
    ∙ sym (get_or-map digit_of (map character ds) 26 0 0 (omega arith))
    ∙ ap (λ xs. get_or xs 26 0) (digits_of_characters ds under) in
    record {
      alphabet = subst (AllBelowBase 64) (sym front) under;
      padded = get_or_at (map character ds) 61 [] 0 27 long;
      no_stray = ap (λ d. d % 4) (read ∙ last) ∙ omega arith;
    }

pub readable_text : (chars : List ℕ) → length chars ≡ 28 → Readable chars → chars ≡ text (spelled chars)
unfolding text spelled
readable_text chars len good =
    let ds = map digit_of (take 27 chars) in
    let front : length (take 27 chars) ≡ 27 = length-take-le 27 chars (omega arith) in
    let long : length ds ≡ 27 = length-map (take 27 chars) digit_of ∙ front in
    let small : number_from_digits 64 ds < 64 ^ 27 = subst (λ (k : ℕ). number_from_digits 64 ds < 64 ^ k) long (number_lt 64 ds good.alphabet) in
    let last : get_or ds 26 0 ≡ digit_of (get_or chars 26 0) = get_or-map digit_of (take 27 chars) 26 0 0 (omega arith) ∙ ap digit_of (get_or-take 27 chars 26 0 (omega arith)) in
    let ends : number_from_digits 64 ds ≡ number_from_digits 64 (take 26 ds) * 64 + get_or ds 26 0 = ap (number_from_digits 64) (sym (take_all 27 ds (omega arith))) ∙ number_next 64 ds 26 27 (omega arith) refl refl in
    let zeros : get_or ds 26 0 % 4 ≡ 0 = ap (λ d. d % 4) last ∙ good.no_stray in
    let back : number_from_digits 256 (numeral 256 20 (number_from_digits 64 ds / 4)) ≡ number_from_digits 64 ds / 4 = number_of_numeral 256 20 (number_from_digits 64 ds / 4) (omega arith) (omega arith) in
    let bits : bit_string (numeral 256 20 (number_from_digits 64 ds / 4)) ≡ number_from_digits 64 ds = ap (λ n. n * 4) back ∙ omega arith in
    let written : map character (numeral 64 27 (number_from_digits 64 ds)) ≡ take 27 chars = ap (map character) (numeral_of_number 64 27 ds good.alphabet long) ∙ characters_of_digits (take 27 chars) good.alphabet in
    sym (take_all 28 chars (omega arith))
    ∙ take_more chars 27 0 (omega arith)
    ∙ ap (λ x. take 27 chars ++ x ∷ []) good.padded
    ∙ ap (λ xs. xs ++ 61 ∷ []) (sym written)
    ∙ ap (λ n. map character (numeral 64 27 n) ++ 61 ∷ []) (sym bits)

-- the same of the padded characters' digits, one by one
module _ (chars ds : List ℕ) (len : length chars ≡ 28) (are : ds ≡ map digit_of (take 27 chars ++ padding)) where
  front : length (take 27 chars) ≡ 27
  front = length-take-le 27 chars (omega arith)

  parts : ds ≡ map digit_of (take 27 chars) ++ map digit_of padding
  parts = are ∙ map-append digit_of (take 27 chars) padding

  mapped : length (map digit_of (take 27 chars)) ≡ 27
  mapped = length-map (take 27 chars) digit_of ∙ front

  pub spelled_digits : take 27 ds ≡ map digit_of (take 27 chars)
  spelled_digits = ap (take 27) parts ∙ take_at (map digit_of (take 27 chars)) (map digit_of padding) 27 mapped

  long : length ds ≡ 32
  long = ap length parts ∙ length-append (map digit_of (take 27 chars)) (map digit_of padding) ∙ ap (λ n. n + 5) mapped

  last : get_or ds 26 0 ≡ digit_of (get_or chars 26 0)
  last =
      sym (get_or-take 27 ds 26 0 (omega arith))
      ∙ ap (λ xs. get_or xs 26 0) spelled_digits
      ∙ get_or-map digit_of (take 27 chars) 26 0 0 (omega (arith, front))
      ∙ ap digit_of (get_or-take 27 chars 26 0 (omega arith))

  pub readable_from_digits : get_or chars 27 0 ≡ 61 → All (λ d. d < 64) ds → get_or ds 26 0 % 4 ≡ 0 → Readable chars
  readable_from_digits padded small zeros =
      record {
        alphabet = subst (AllBelowBase 64) spelled_digits (All-take (λ d. d < 64) 27 ds (recursion_from_All (λ d. d < 64) ds small));
        padded = padded;
        no_stray = ap (λ d. d % 4) (sym last) ∙ zeros;
      }

  pub digits_of_readable : Readable chars → All (λ d. d < 64) ds
  digits_of_readable good =
      let zeros : AllBelowBase 64 (map digit_of padding) = search rules in
      All-from_recursion (λ d. d < 64) ds (subst (AllBelowBase 64) (sym parts) (All-append (λ d. d < 64) _ _ good.alphabet zeros))

  pub last_of_readable : Readable chars → get_or ds 26 0 % 4 ≡ 0
  last_of_readable good = ap (λ d. d % 4) last ∙ good.no_stray

-- the test of the last digit and of what stands behind it
pub ends_from_test : (digit behind : ℕ) → (eqb (digit % 4) 0 && eqb behind 61) ≡ true → (digit % 4 ≡ 0) × (behind ≡ 61)
ends_from_test digit behind t = (Decides-and (eqb (digit % 4) 0) (eqb behind 61) (Decides-eqb (digit % 4) 0) (Decides-eqb behind 61)).0 t

pub test_from_ends : (digit behind : ℕ) → digit % 4 ≡ 0 → behind ≡ 61 → (eqb (digit % 4) 0 && eqb behind 61) ≡ true
test_from_ends digit behind e f = (Decides-and (eqb (digit % 4) 0) (eqb behind 61) (Decides-eqb (digit % 4) 0) (Decides-eqb behind 61)).1 (e, f)

-- reading answers the hash that the characters spell where they are readable, and refuses all others
pub reading_readable : (chars : List ℕ) → length chars ≡ 28 → Readable chars → reading chars ≡ Ok (spelled chars)
unfolding reading
reading_readable chars len good = inverse.reads text spelled chars (readable_text chars len good)

pub reading_refuses : (chars : List ℕ) → (Readable chars → ⊥) → reading chars ≡ Err Malformed
unfolding reading
reading_refuses chars bad = inverse.refuses text spelled chars (λ e. bad (subst Readable (sym e) (text_readable (spelled chars))))

pub stray_bits_refused : (chars : List ℕ) → StrayBits chars → reading chars ≡ Err Malformed
stray_bits_refused chars stray = reading_refuses chars (λ good. stray good.no_stray)

pub text_canonical : Canonical text reading
unfolding reading
text_canonical =
    inverse.canonical text spelled
    (λ hash is. ap spelled (sym (append-nil (text hash))) ∙ spelled_of_text hash [] is)
    spelled_is_hash
