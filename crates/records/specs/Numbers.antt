-- A number and its bytes are each other's inverse.
use Rattle.std.specs.Prelude.{◌≡◌, ℕ, zero, suc, ◌+◌, ◌*◌, ◌/◌, ◌%◌, ◌^◌, ◌<◌, ◌≤◌, List, [], ◌∷◌, ◌++◌, length, take, slice_index_or, refl}
use Rattle.std.proofs.Common.{sym, ap, ◌∙◌, div-lt_iff_lt-mul, div-add-mod', mod-lt, pow-suc, add-one, arith}
use Rattle.std.proofs.Math.Nat.{div-div-eq-div-mul, pow-zero}
use Rattle.std.proofs.Math.Arith.{digits_div, digits_mod}
use Rattle.std.specs.Int.Digits.{number_from_digits, AllBelowBase}
use Rattle.std.proofs.lemmas.Int.Digits.{number_push}
use Rattle.std.proofs.ByRecursion.{All-push, All-get_or}
use Rattle.std.proofs.lemmas.List.{take_more, take_all, length_push}
use Rattle.records.specs.Records.{big_endian}

-- as `to_be_bytes` says it
pub eight_bytes_are_big_endian : (n : ℕ) → (n / 72057594037927936 % 256) ∷ (n / 281474976710656 % 256) ∷ (n / 1099511627776 % 256) ∷ (n / 4294967296 % 256) ∷ (n / 16777216 % 256) ∷ (n / 65536 % 256) ∷ (n / 256 % 256) ∷ (n % 256) ∷ [] ≡ big_endian 8 n
unfolding big_endian
eight_bytes_are_big_endian n = simp div-div-eq-div-mul

pub four_bytes_are_big_endian : (n : ℕ) → (n / 16777216 % 256) ∷ (n / 65536 % 256) ∷ (n / 256 % 256) ∷ (n % 256) ∷ [] ≡ big_endian 4 n
unfolding big_endian
four_bytes_are_big_endian n = simp div-div-eq-div-mul

pub length-big_endian : (count n : ℕ) → length (big_endian count n) ≡ count
unfolding big_endian
length-big_endian zero n = refl
length-big_endian (suc count) n = length_push (big_endian count (n / 256)) (n % 256) ∙ ap (λ k. k + 1) (length-big_endian count (n / 256)) ∙ add-one count

pub under_big_endian : (count n : ℕ) → AllBelowBase 256 (big_endian count n)
unfolding big_endian
under_big_endian zero n = tt
under_big_endian (suc count) n = All-push (λ d. d < 256) _ _ (under_big_endian count (n / 256)) (mod-lt n (omega arith))

pub number_of_big_endian : (count n : ℕ) → n < 256 ^ count → number_from_digits 256 (big_endian count n) ≡ n
unfolding big_endian
number_of_big_endian zero n l = let e : n < 1 = simp pow-zero at l in omega arith
number_of_big_endian (suc count) n l =
    let less : n / 256 < 256 ^ count = (div-lt_iff_lt-mul {k = 256} (omega arith)).1 (simp pow-suc at l) in
    number_push 256 (big_endian count (n / 256)) (n % 256)
    ∙ ap (λ q. q * 256 + n % 256) (number_of_big_endian count (n / 256) less)
    ∙ div-add-mod' n 256

big_endian_of_front : (ds : List ℕ) (count : ℕ) → AllBelowBase 256 ds → count ≤ length ds → big_endian count (number_from_digits 256 (take count ds)) ≡ take count ds
unfolding big_endian
big_endian_of_front ds zero u l = refl
big_endian_of_front ds (suc count) u l =
    let within : count < length ds = omega arith in
    let d = slice_index_or ds count 0 in
    let small : d < 256 = All-get_or (λ x. x < 256) ds count 0 within u in
    let more : take (suc count) ds ≡ take count ds ++ d ∷ [] = ap (λ k. take k ds) (sym (add-one count)) ∙ take_more ds count 0 within in
    let front = number_from_digits 256 (take count ds) in
    ap (big_endian (suc count)) (ap (number_from_digits 256) more ∙ number_push 256 (take count ds) d)
    ∙ ap (λ q. big_endian count q ++ (front * 256 + d) % 256 ∷ []) (digits_div front small)
    ∙ ap (λ r. big_endian count front ++ r ∷ []) (digits_mod front small)
    ∙ ap (λ xs. xs ++ d ∷ []) (big_endian_of_front ds count u (omega arith))
    ∙ sym more

pub big_endian_of_number : (ds : List ℕ) (count : ℕ) → AllBelowBase 256 ds → length ds ≡ count → big_endian count (number_from_digits 256 ds) ≡ ds
big_endian_of_number ds count u e =
    let all = take_all count ds (omega arith) in
    ap (λ xs. big_endian count (number_from_digits 256 xs)) (sym all) ∙ big_endian_of_front ds count u (omega arith) ∙ all
