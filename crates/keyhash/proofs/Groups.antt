-- Groups of digits in one base, and groups in another that are the same numbers.
use Rattle.std.proofs.Common.{◌≡◌, ℕ, zero, suc, ◌+◌, ◌*◌, ◌/◌, ◌^◌, ◌<◌, ◌≤◌, List, [], ◌∷◌, ◌++◌, length, get_or, take, drop, sym, refl, ap, ◌∙◌, subst, div-one, arith}
use native.Mathlib.Nat.{div-div-eq-div-mul, pow-succ', pow-zero}
use lib.Arith.{digits_div}
use Rattle.std.specs.List.{flat_map}
use Rattle.std.specs.Simd.{first_chunks}
use Rattle.std.specs.Int.Digits.{number_from_digits, number_from_digits_after, AllBelowBase}
use Rattle.std.proofs.lemmas.Int.Digits.{number_after_append}
use Rattle.std.proofs.lemmas.List.{take-append-drop, length-drop, length-take-le, take_all}
use Rattle.std.proofs.ByRecursion.{All-append, All-take, All-drop, All-get_or}
use Rattle.keyhash.specs.Numeral.{numeral, Rewritten}
use Rattle.keyhash.specs.Base64.{bit_string}
use Rattle.keyhash.proofs.Numbers.{number_next, numeral_of_number}

-- the digits of all groups, one behind the other
abbrev pub joined : List (List ℕ) → List ℕ
joined groups = flat_map (λ group. group) groups

-- groups that are rewritten one by one are rewritten as a whole
pub rewritten_joined : (b c : ℕ) (xs ys : List (List ℕ)) → length xs ≡ length ys → ((i : ℕ) → i < length xs → Rewritten b c (get_or xs i []) (get_or ys i [])) → Rewritten b c (joined xs) (joined ys)
rewritten_joined b c [] [] long each = record { below = tt; same_number = λ before. refl }
rewritten_joined b c [] (y ∷ ys) long each = absurd (omega arith)
rewritten_joined b c (x ∷ xs) [] long each = absurd (omega arith)
rewritten_joined b c (x ∷ xs) (y ∷ ys) long each =
    let first = each 0 (omega arith) in
    let rest = rewritten_joined b c xs ys (omega arith) (λ i l. each (suc i) (omega arith)) in
    record {
      below = All-append (λ d. d < c) y (joined ys) first.below rest.below;
      same_number = λ before.
          number_after_append b before x (joined xs)
          ∙ ap (λ n. number_from_digits_after b n (joined xs)) (first.same_number before)
          ∙ rest.same_number (number_from_digits_after c before y)
          ∙ sym (number_after_append c before y (joined ys));
    }

-- the chunks of a list are the list
length-first_chunks : (n k : ℕ) (xs : List ℕ) → length (first_chunks n k xs) ≡ k
length-first_chunks n zero xs = refl
length-first_chunks n (suc k) xs = ap (λ (j : ℕ). suc j) (length-first_chunks n k (drop n xs))

joined_chunks : (n k : ℕ) (xs : List ℕ) → n * k ≡ length xs → joined (first_chunks n k xs) ≡ xs
joined_chunks n zero [] e = refl
joined_chunks n zero (x ∷ xs) e = absurd (omega arith)
joined_chunks n (suc k) xs e = ap (λ ys. take n xs ++ ys) (joined_chunks n k (drop n xs) (simp length-drop (omega arith))) ∙ take-append-drop n xs

pub below_chunks : (b n k : ℕ) (xs : List ℕ) → AllBelowBase b xs → (i : ℕ) → AllBelowBase b (get_or (first_chunks n k xs) i [])
below_chunks b n zero xs under i = tt
below_chunks b n (suc k) xs under zero = All-take (λ d. d < b) n xs under
below_chunks b n (suc k) xs under (suc i) = below_chunks b n k (drop n xs) (All-drop (λ d. d < b) n xs under) i

-- a list is rewritten where each of its chunks is
pub rewritten_chunks : (b c n k : ℕ) (xs ys : List ℕ) (chunks groups : List (List ℕ)) → n * k ≡ length xs → chunks ≡ first_chunks n k xs → length groups ≡ k → ys ≡ joined groups → ((i : ℕ) → i < k → Rewritten b c (get_or chunks i []) (get_or groups i [])) → Rewritten b c xs ys
rewritten_chunks b c n k xs ys chunks groups whole cut many are each =
    let count : length (first_chunks n k xs) ≡ k = length-first_chunks n k xs in
    let all = rewritten_joined b c (first_chunks n k xs) groups (count ∙ sym many) (λ i l. subst (λ cs. Rewritten b c (get_or cs i []) (get_or groups i [])) cut (each i (omega arith))) in
    subst (λ zs. Rewritten b c zs ys) (joined_chunks n k xs whole) (subst (Rewritten b c (joined (first_chunks n k xs))) (sym are) all)

-- the first n of n + w digits are the number without its last w digits
pub number_front : (b n w k : ℕ) (ds : List ℕ) → n + w ≡ k → k ≤ length ds → AllBelowBase b ds → number_from_digits b (take k ds) / b ^ w ≡ number_from_digits b (take n ds)
number_front b n zero k ds e l under = (let same : k ≡ n = omega arith in simp (same, pow-zero, div-one))
number_front b n (suc w) k ds e l under =
    let inside : n + w < length ds = omega arith in
    let next : number_from_digits b (take k ds) ≡ number_from_digits b (take (n + w) ds) * b + get_or ds (n + w) 0 = number_next b ds (n + w) k inside (omega arith) refl in
    let quotient : (number_from_digits b (take (n + w) ds) * b + get_or ds (n + w) 0) / b ≡ number_from_digits b (take (n + w) ds) = digits_div (number_from_digits b (take (n + w) ds)) (All-get_or (λ d. d < b) ds (n + w) 0 inside under) in
    ap (λ m. number_from_digits b (take k ds) / m) (pow-succ' b w)
    ∙ sym (div-div-eq-div-mul (number_from_digits b (take k ds)) b (b ^ w))
    ∙ ap (λ m. m / b ^ w) (ap (λ m. m / b) next ∙ quotient)
    ∙ number_front b n w (n + w) ds refl (omega arith) under

-- 32 digits that hold the bytes of a hash and four bytes 0 begin with the 27 digits of the hash
pub cut_digits : (hash bytes digits : List ℕ) → Rewritten 256 64 bytes digits → bytes ≡ hash ++ 0 ∷ 0 ∷ 0 ∷ 0 ∷ [] → length digits ≡ 32 → take 27 digits ≡ numeral 64 27 (bit_string hash)
cut_digits hash bytes digits rewritten filled long =
    let same : number_from_digits 64 digits ≡ number_from_digits 256 hash * 256 * 256 * 256 * 256 =
    sym (rewritten.same_number 0) ∙ ap (number_from_digits 256) filled ∙ number_after_append 256 0 hash (0 ∷ 0 ∷ 0 ∷ 0 ∷ []) ∙ omega arith in
    let front = number_front 64 27 5 32 digits refl (omega arith) rewritten.below in
    let whole : number_from_digits 64 (take 32 digits) ≡ number_from_digits 64 digits = ap (number_from_digits 64) (take_all 32 digits (omega arith)) in
    let is : number_from_digits 64 (take 27 digits) ≡ bit_string hash = omega arith in
    sym (numeral_of_number 64 27 (take 27 digits) (All-take (λ d. d < 64) 27 digits rewritten.below) (length-take-le 27 digits (omega arith))) ∙ ap (numeral 64 27) is

-- the first 20 bytes of the 24 that 32 digits hold are the first 27 digits less two bits
pub join_bytes : (digits bytes : List ℕ) → Rewritten 64 256 digits bytes → AllBelowBase 64 digits → length digits ≡ 32 → length bytes ≡ 24 → take 20 bytes ≡ numeral 256 20 (number_from_digits 64 (take 27 digits) / 4)
join_bytes digits bytes rewritten under long whole =
    let same : number_from_digits 64 digits ≡ number_from_digits 256 bytes = rewritten.same_number 0 in
    let front = number_front 64 27 5 32 digits refl (omega arith) under in
    let all : number_from_digits 64 (take 32 digits) ≡ number_from_digits 64 digits = ap (number_from_digits 64) (take_all 32 digits (omega arith)) in
    let front_bytes = number_front 256 20 4 24 bytes refl (omega arith) rewritten.below in
    let all_bytes : number_from_digits 256 (take 24 bytes) ≡ number_from_digits 256 bytes = ap (number_from_digits 256) (take_all 24 bytes (omega arith)) in
    let is : number_from_digits 256 (take 20 bytes) ≡ number_from_digits 64 (take 27 digits) / 4 = omega arith in
    sym (numeral_of_number 256 20 (take 20 bytes) (All-take (λ d. d < 256) 20 bytes rewritten.below) (length-take-le 20 bytes (omega arith))) ∙ ap (numeral 256 20) is
