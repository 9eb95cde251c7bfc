-- A number and its digits in a fixed count are each other's inverse.
use Rattle.std.proofs.Common.{◌≡◌, ℕ, zero, suc, ◌+◌, ◌-◌, ◌*◌, ◌/◌, ◌%◌, ◌^◌, ◌<◌, ◌≤◌, List, [], ◌∷◌, ◌++◌, map, length, get_or, take, sym, refl, ap, ◌∙◌, subst, mod-lt, div-lt_iff_lt-mul, pow-suc, div-add-mod', div-one, add-one, arith}
use native.Mathlib.Nat.{div-div-eq-div-mul, pow-succ', pow-zero}
use lib.Arith.{digits_div, digits_mod}
use Rattle.std.specs.List.{range_with_len}
use Rattle.std.specs.Int.Digits.{number_from_digits, AllBelowBase}
use Rattle.std.proofs.lemmas.List.FromFn.{length-map-range_with_len, get_or-map-range_with_len, map-range_with_len_more, fill_by_all}
use Rattle.std.proofs.lemmas.Int.Digits.{number_push, number_more}
use Rattle.std.proofs.ByRecursion.{All-push, All-get_or}
use Rattle.std.proofs.lemmas.List.{take_more, take_all}
use Rattle.keyhash.specs.Numeral.{digit_at, numeral}

pub length-numeral : (b n m : ℕ) → length (numeral b n m) ≡ n
unfolding numeral
length-numeral b n m = length-map-range_with_len (digit_at b n m) 0 n

-- a digit that is not the last is the same digit of the quotient
digit_at_front : (b n m i : ℕ) → i < n → digit_at b (n + 1) m i ≡ digit_at b n (m / b) i
digit_at_front b n m i h =
    let e : n + 1 - 1 - i ≡ suc (n - 1 - i) = omega arith in
    simp (e, pow-succ', div-div-eq-div-mul)

numeral_more : (b n m : ℕ) → numeral b (n + 1) m ≡ numeral b n (m / b) ++ m % b ∷ []
unfolding numeral
numeral_more b n m =
    let last : digit_at b (n + 1) m n ≡ m % b = (let e : n + 1 - 1 - n ≡ 0 = omega arith in simp (e, pow-zero, div-one)) in
    map-range_with_len_more (digit_at b (n + 1) m) 0 n n (omega arith)
    ∙ ap (λ x. map (digit_at b (n + 1) m) (range_with_len 0 n) ++ x ∷ []) last
    ∙ ap (λ xs. xs ++ m % b ∷ []) (fill_by_all (digit_at b n (m / b)) (map (digit_at b (n + 1) m) (range_with_len 0 n)) n 0 (length-map-range_with_len (digit_at b (n + 1) m) 0 n)
    (λ k h. get_or-map-range_with_len (digit_at b (n + 1) m) 0 n k k 0 h (omega arith) ∙ digit_at_front b n m k h))

pub numeral-step : (b n m : ℕ) → numeral b (suc n) m ≡ numeral b n (m / b) ++ m % b ∷ []
numeral-step b n m = ap (λ k. numeral b k m) (sym (add-one n)) ∙ numeral_more b n m

pub numeral-none : (b m : ℕ) → numeral b zero m ≡ []
unfolding numeral
numeral-none b m = refl

pub under_numeral : (b n m : ℕ) → 0 < b → AllBelowBase b (numeral b n m)
under_numeral b zero m h = subst (AllBelowBase b) (sym (numeral-none b m)) tt
under_numeral b (suc n) m h = subst (AllBelowBase b) (sym (numeral-step b n m)) (All-push (λ d. d < b) _ _ (under_numeral b n (m / b) h) (mod-lt m h))

pub number_of_numeral : (b n m : ℕ) → 0 < b → m < b ^ n → number_from_digits b (numeral b n m) ≡ m
number_of_numeral b zero m h l = ap (number_from_digits b) (numeral-none b m) ∙ (let e : m < 1 = simp pow-zero at l in omega arith)
number_of_numeral b (suc n) m h l =
    let q : m / b < b ^ n = (div-lt_iff_lt-mul h).1 (simp pow-suc at l) in
    ap (number_from_digits b) (numeral-step b n m)
    ∙ number_push b (numeral b n (m / b)) (m % b)
    ∙ ap (λ x. x * b + m % b) (number_of_numeral b n (m / b) h q)
    ∙ div-add-mod' m b

numeral_take : (b : ℕ) (ds : List ℕ) (n : ℕ) → AllBelowBase b ds → n ≤ length ds → numeral b n (number_from_digits b (take n ds)) ≡ take n ds
numeral_take b ds zero u l = numeral-none b _
numeral_take b ds (suc n) u l =
    let in' : n < length ds = omega arith in
    let d = get_or ds n 0 in
    let small : d < b = All-get_or (λ x. x < b) ds n 0 in' u in
    let more : take (suc n) ds ≡ take n ds ++ d ∷ [] = ap (λ k. take k ds) (sym (add-one n)) ∙ take_more ds n 0 in' in
    let is : number_from_digits b (take (suc n) ds) ≡ number_from_digits b (take n ds) * b + d = ap (number_from_digits b) more ∙ number_push b (take n ds) d in
    ap (numeral b (suc n)) is
    ∙ numeral-step b n (number_from_digits b (take n ds) * b + d)
    ∙ ap (λ q. numeral b n q ++ (number_from_digits b (take n ds) * b + d) % b ∷ []) (digits_div (number_from_digits b (take n ds)) small)
    ∙ ap (λ r. numeral b n (number_from_digits b (take n ds)) ++ r ∷ []) (digits_mod (number_from_digits b (take n ds)) small)
    ∙ ap (λ xs. xs ++ d ∷ []) (numeral_take b ds n u (omega arith))
    ∙ sym more

pub numeral_of_number : (b n : ℕ) (ds : List ℕ) → AllBelowBase b ds → length ds ≡ n → numeral b n (number_from_digits b ds) ≡ ds
numeral_of_number b n ds u e =
    let all = take_all n ds (omega arith) in
    ap (λ xs. numeral b n (number_from_digits b xs)) (sym all) ∙ numeral_take b ds n u (omega arith) ∙ all

-- the number of one element more of a list; k is n + 1
pub number_next : (b : ℕ) (ds : List ℕ) (n k : ℕ) {m : ℕ} → n < length ds → n + 1 ≡ k → number_from_digits b (take n ds) ≡ m → number_from_digits b (take k ds) ≡ m * b + get_or ds n 0
number_next b ds n k l e is = ap (λ j. number_from_digits b (take j ds)) (sym e) ∙ number_more b ds n l ∙ ap (λ x. x * b + get_or ds n 0) is
