-- A number written with a fixed count of digits.
use Rattle.std.specs.Prelude.{◌≡◌, ℕ, ◌-◌, ◌/◌, ◌%◌, ◌^◌, List, map}
use Rattle.std.specs.List.{range_with_len}
use Rattle.std.specs.Int.Digits.{number_from_digits_after, AllBelowBase}

-- digit i of the count digits that write n in a base, counted from the most significant
abbrev pub digit_at : ℕ → ℕ → ℕ → ℕ → ℕ
digit_at base count n i = n / base ^ (count - 1 - i) % base

-- all of them
unfoldable pub numeral : ℕ → ℕ → ℕ → List ℕ
numeral base count n = map (digit_at base count n) (range_with_len 0 count)

-- ys are digits in base c, and behind the same digits they are the same number as the digits xs in base b
pub record Rewritten (b c : ℕ) (xs ys : List ℕ) : Type 0 where
  pub below : AllBelowBase c ys
  pub same_number : (before : ℕ) → number_from_digits_after b before xs ≡ number_from_digits_after c before ys
