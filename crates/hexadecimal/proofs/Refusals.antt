-- Which words are refused before any byte is written.
use Rattle.std.proofs.Common.{◌≡◌, ℕ, ◌%◌, Bool, true, false, ◌&&◌, eqb, List, [], ◌∷◌, length, fold, Some, None, Option, refl, ap, ◌∙◌, true≢false, arith}
use Rattle.std.specs.Prelude.{is_some, nat_lt}
use Rattle.std.specs.List.{list_all}
use Rattle.std.proofs.lemmas.Bool.Decides.{nat_tests}
use Rattle.hexadecimal.specs.Hex.{hex_value, all_hex, hex_bytes}
use Rattle.hexadecimal.specs.Digits.{bytes_are_written_by_pairs_of_digits}

-- a test of every character, joined with no early exit, is the test of all
fold_is_all : (test : ℕ → Bool) (start : Bool) (xs : List ℕ) → fold (λ all c. all && test c) start xs ≡ (start && list_all test xs)
fold_is_all test true [] = refl
fold_is_all test false [] = refl
fold_is_all test true (x ∷ xs) = fold_is_all test (test x) xs
fold_is_all test false (x ∷ xs) = fold_is_all test false xs

pub all_digits_is : (hex : List ℕ) (all : Bool) → all ≡ fold (λ all c. all && nat_lt (hex_value c) 16) true hex → all ≡ all_hex hex
all_digits_is hex all e = e ∙ fold_is_all (λ c. nat_lt (hex_value c) 16) true hex

none_of : (o : Option (List ℕ)) → is_some o ≡ false → None ≡ o
none_of None e = refl
none_of (Some bytes) e = absurd (true≢false e)

pub refuses_odd : (hex : List ℕ) → (length hex % 2 ≡ 0 → ⊥) → None ≡ hex_bytes hex
refuses_odd hex odd =
    let test : eqb (length hex % 2) 0 ≡ false = grind (arith, nat_tests) in
    none_of (hex_bytes hex) (bytes_are_written_by_pairs_of_digits hex ∙ ap (λ b. b && all_hex hex) test)

both : (even all : Bool) → all ≡ false → (even && all) ≡ false
both true all e = e
both false all e = refl

pub refuses_other : (hex : List ℕ) → all_hex hex ≡ false → None ≡ hex_bytes hex
refuses_other hex e = none_of (hex_bytes hex) (bytes_are_written_by_pairs_of_digits hex ∙ both _ _ e)
