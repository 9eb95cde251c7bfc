-- In a sorted list equal hashes stand together, so a hash that came more than once follows itself.
use Rattle.std.proofs.Common.{◌≡◌, ℕ, suc, ◌+◌, ◌-◌, ◌<◌, ◌≤◌, Bool, true, false, cond, leb, List, [], ◌∷◌, ◌++◌, length, get_or, take, drop, sum_by, Ordering, Less, Equal, Greater, sym, refl, ap, ◌∙◌, subst, true≢false, arith}
use Rattle.std.specs.Cmp.Lexicographic.{slice_cmp}
use Rattle.std.specs.Ordering.{is_lt, ordering_reverse, nat_cmp}
use Rattle.std.proofs.lemmas.Cmp.{nat_list_cmp_total}
use Rattle.std.proofs.lemmas.Map.Lookups.{exact_bytes}
use Rattle.std.specs.List.Sorted.{IsSortedWithin, IsPermutation}
use Rattle.std.specs.Str.{bytes_eq}
use Rattle.std.proofs.lemmas.List.MinMax.{ranks_by}
use Rattle.std.proofs.lemmas.Slice.Eq.{bytes_eq-Decides}
use Rattle.std.proofs.lemmas.List.{append_assoc, at_drop_more, take_rest}
use Rattle.std.proofs.lemmas.List.Sorted.{sorted_far, sum_by-IsPermutation}
use Rattle.std.proofs.lemmas.List.Sums.{sum_by-cons}
use Rattle.std.proofs.lemmas.Bool.Decides.{nat_tests}
use Rattle.account.specs.Repeats.{one_if, ListsEachRepeatedHashOnce, repeats_after, repeats}

-- how often a hash is among some, counted one by one
abbrev times : List ℕ → List (List ℕ) → ℕ
times hash [] = 0
times hash (other ∷ others) = one_if hash other + times hash others

-- equal hashes stand together
abbrev pub Grouped : List ℕ → List (List ℕ) → Type 0
Grouped hash [] = Unit {0}
Grouped hash (next ∷ rest) = (bytes_eq hash next ≡ false → times hash (next ∷ rest) ≡ 0) × Grouped next rest

-- how often a hash is listed: once where it came twice, or where the current one, not yet listed, comes again
abbrev expected : Bool → List ℕ → List ℕ → List (List ℕ) → ℕ
expected false hash current rest = cond (leb 2 (one_if hash current + times hash rest)) 1 0
expected true hash current rest = cond (bytes_eq hash current) 0 (cond (leb 2 (times hash rest)) 1 0)

-- one hash on: b and p say whether the next and the hash that is counted are the current one, and q whether they are the same
step : (listed b p q : Bool) (n again other : ℕ) → (b ≡ true → p ≡ q) → (b ≡ false → p ≡ true → cond q 1 0 + n ≡ 0)
    → (b ≡ true → again ≡ cond p 0 (cond (leb 2 n) 1 0)) → other ≡ cond (leb 2 (cond q 1 0 + n)) 1 0
    → cond b (cond listed again (cond p 1 0 + again)) other ≡ cond listed (cond p 0 (cond (leb 2 (cond q 1 0 + n)) 1 0)) (cond (leb 2 (cond p 1 0 + (cond q 1 0 + n))) 1 0)
step listed b p q n again other same apart e f = grind (arith, nat_tests)

times_cond : (hash : List ℕ) (b : Bool) (xs ys : List (List ℕ)) → times hash (cond b xs ys) ≡ cond b (times hash xs) (times hash ys)
times_cond hash true xs ys = refl
times_cond hash false xs ys = refl

expected_is : (listed : Bool) (hash current : List ℕ) (rest : List (List ℕ)) → expected listed hash current rest ≡ cond listed (cond (bytes_eq hash current) 0 (cond (leb 2 (times hash rest)) 1 0)) (cond (leb 2 (one_if hash current + times hash rest)) 1 0)
expected_is true hash current rest = refl
expected_is false hash current rest = refl

listed_once : (hash current : List ℕ) (listed : Bool) (rest : List (List ℕ)) → Grouped current rest → times hash (repeats_after current listed rest) ≡ expected listed hash current rest
listed_once hash current false [] g = few (bytes_eq hash current)
  where
    few : (b : Bool) → ◌≡◌ {A = ℕ} 0 (cond (leb 2 (cond b 1 0 + 0)) 1 0)
    few true = refl
    few false = refl
listed_once hash current true [] g = none (bytes_eq hash current)
  where
    none : (b : Bool) → ◌≡◌ {A = ℕ} 0 (cond b 0 0)
    none true = refl
    none false = refl
listed_once hash current listed (next ∷ rest) g =
    let b = bytes_eq current next in
    let p = bytes_eq hash current in
    let q = bytes_eq hash next in
    let again = repeats_after current true rest in
    let other = repeats_after next false rest in
    let same : bytes_eq current next ≡ true → bytes_eq hash current ≡ bytes_eq hash next = λ e. ap (bytes_eq hash) ((bytes_eq-Decides current next).0 e) in
    let apart : bytes_eq current next ≡ false → bytes_eq hash current ≡ true → cond (bytes_eq hash next) 1 0 + times hash rest ≡ 0 =
    λ e f. ap (λ h. times h (next ∷ rest)) ((bytes_eq-Decides hash current).0 f) ∙ g.0 e in
    let as-next : bytes_eq current next ≡ true → Grouped current rest = λ e. subst (λ h. Grouped h rest) (sym ((bytes_eq-Decides current next).0 e)) g.1 in
    times_cond hash b (cond listed again (current ∷ again)) other
    ∙ ap (λ n. cond b n (times hash other)) (times_cond hash listed again (current ∷ again))
    ∙ step listed b p q (times hash rest) (times hash again) (times hash other) same apart (λ e. listed_once hash current true rest (as-next e)) (listed_once hash next false rest g.1)
    ∙ sym (expected_is listed hash current (next ∷ rest))

-- no hash is below one that stands before it
abbrev lt : List ℕ → List ℕ → Bool
lt x y = is_lt (slice_cmp nat_cmp x y)

equal_from_both : (x y : List ℕ) → lt x y ≡ false → lt y x ≡ false → x ≡ y
equal_from_both x y e f = by (slice_cmp nat_cmp x y) refl
  where
    by : (k : Ordering) → slice_cmp nat_cmp x y ≡ k → x ≡ y
    by Less g = absurd (true≢false (sym (ap is_lt g) ∙ e))
    by Equal g = exact_bytes x y g
    by Greater g = absurd (true≢false (sym (ap is_lt (nat_list_cmp_total.antisymm y x ∙ ap ordering_reverse g)) ∙ f))

-- a hash that some list has none of
no_times : (hash : List ℕ) (xs : List (List ℕ)) → ((k : ℕ) → k < length xs → hash ≡ get_or xs k [] → ⊥) → times hash xs ≡ 0
no_times hash [] none = refl
no_times hash (x ∷ xs) none =
    let other : bytes_eq hash x ≡ false = by (bytes_eq hash x) refl in
    let rest : times hash xs ≡ 0 = no_times hash xs (λ k l e. none (suc k) (omega arith) e) in
    ap (λ b. cond b 1 0 + times hash xs) other ∙ omega arith
  where
    by : (b : Bool) → bytes_eq hash x ≡ b → b ≡ false
    by true e = absurd (none 0 (omega arith) ((bytes_eq-Decides hash x).0 e))
    by false e = refl

-- pairs in order, nearest first
abbrev Sorted : List (List ℕ) → Type 0
Sorted xs = (i j : ℕ) → i ≤ j → j < length xs → lt (get_or xs j []) (get_or xs i []) ≡ false

grouped_from_sorted : (hash : List ℕ) (rest : List (List ℕ)) → Sorted (hash ∷ rest) → Grouped hash rest
grouped_from_sorted hash [] up = tt
grouped_from_sorted hash (next ∷ rest) up = (
  (λ apart. no_times hash (next ∷ rest)
      (λ k l e. let same : hash ≡ next = equal_from_both hash next (ap (λ h. lt h next) e ∙ up 1 (suc k) (omega arith) (omega arith)) (up 0 1 (omega arith) (omega arith)) in
      absurd (true≢false (sym ((bytes_eq-Decides hash next).1 same) ∙ apart)))),
  grouped_from_sorted next rest (λ i j l m. up (suc i) (suc j) (omega arith) (omega arith)),
)

sorted_from_ascends : (xs : List (List ℕ)) (n : ℕ) → length xs ≡ n → IsSortedWithin lt xs 0 n → Sorted xs
sorted_from_ascends xs n e up i j l m = sorted_far lt (ranks_by nat_list_cmp_total (λ x. x)) xs (subst (IsSortedWithin lt xs 0) (sym e) up) i j [] l m

times_is : (hash : List ℕ) (xs : List (List ℕ)) → times hash xs ≡ sum_by (one_if hash) xs
times_is hash [] = refl
times_is hash (x ∷ xs) = ap (λ n. one_if hash x + n) (times_is hash xs) ∙ sym (sum_by-cons (one_if hash) x xs)

pub times_shuffled : (hash : List ℕ) (xs ys : List (List ℕ)) → IsPermutation xs ys → times hash ys ≡ times hash xs
times_shuffled hash xs ys moved = times_is hash ys ∙ sum_by-IsPermutation (one_if hash) xs ys moved ∙ sym (times_is hash xs)

-- in the sorted list of some hashes, those that follow themselves are those that came more than once
pub sorted_repeats : (hashes sorted : List (List ℕ)) (n : ℕ) → IsPermutation hashes sorted → length sorted ≡ n → IsSortedWithin lt sorted 0 n → ListsEachRepeatedHashOnce hashes (repeats sorted)
sorted_repeats hashes sorted n moved e up hash =
    sym (times_is hash (repeats sorted)) ∙ listed sorted (sorted_from_ascends sorted n e up) ∙ ap (λ m. cond (leb 2 m) 1 0) (times_shuffled hash hashes sorted moved ∙ times_is hash hashes)
  where
    listed : (xs : List (List ℕ)) → Sorted xs → times hash (repeats xs) ≡ cond (leb 2 (times hash xs)) 1 0
    listed [] s = refl
    listed (x ∷ xs) s = listed_once hash x false xs (grouped_from_sorted x xs s)

-- a loop over the list, one hash on: the next is another, the current one again, or again once it is listed
module _ (current : List ℕ) (listed : Bool) (xs : List (List ℕ)) (i : ℕ) (l : i < length xs) (old whole : List (List ℕ)) (is : old ++ repeats_after current listed (drop i xs) ≡ whole) where
  abbrev next : List ℕ
  next = get_or xs i []

  abbrev rest : List (List ℕ)
  rest = drop (i + 1) xs

  open_step : old ++ cond (bytes_eq current next) (cond listed (repeats_after current true rest) (current ∷ repeats_after current true rest)) (repeats_after next false rest) ≡ whole
  open_step = ap (λ ys. old ++ ys) (sym (at_drop_more (repeats_after current listed) xs i [] l)) ∙ is

  pub at_another : (out : List (List ℕ)) (hash : List ℕ) (mark : Bool) → (current ≡ next → ⊥) → out ≡ old → hash ≡ next → mark ≡ false → out ++ repeats_after hash mark rest ≡ whole
  at_another out hash mark other e f g =
      let no : bytes_eq current next ≡ false = by (bytes_eq current next) refl in
      let now : old ++ repeats_after next false rest ≡ whole = ap (λ b. old ++ cond b (cond listed (repeats_after current true rest) (current ∷ repeats_after current true rest)) (repeats_after next false rest)) (sym no) ∙ open_step in
      cc
    where
      by : (b : Bool) → bytes_eq current next ≡ b → b ≡ false
      by true t = absurd (other ((bytes_eq-Decides current next).0 t))
      by false t = refl

  again : current ≡ next → old ++ cond listed (repeats_after current true rest) (current ∷ repeats_after current true rest) ≡ whole
  again e = ap (λ b. old ++ cond b (cond listed (repeats_after current true rest) (current ∷ repeats_after current true rest)) (repeats_after next false rest)) (sym ((bytes_eq-Decides current next).1 e)) ∙ open_step

  pub at_a_listed : (out : List (List ℕ)) (hash : List ℕ) (mark : Bool) → current ≡ next → listed ≡ true → out ≡ old → hash ≡ current → mark ≡ true → out ++ repeats_after hash mark rest ≡ whole
  at_a_listed out hash mark same yes-listed e f g =
      let now : old ++ repeats_after current true rest ≡ whole = ap (λ b. old ++ cond b (repeats_after current true rest) (current ∷ repeats_after current true rest)) (sym yes-listed) ∙ again same in
      cc

  pub at_a_second : (out : List (List ℕ)) (hash : List ℕ) (mark : Bool) → current ≡ next → listed ≡ false → out ≡ old ++ current ∷ [] → hash ≡ current → mark ≡ true → out ++ repeats_after hash mark rest ≡ whole
  at_a_second out hash mark same not_listed e f g =
      let now : old ++ (current ∷ repeats_after current true rest) ≡ whole = ap (λ b. old ++ cond b (repeats_after current true rest) (current ∷ repeats_after current true rest)) (sym not_listed) ∙ again same in
      let joined = append_assoc old (current ∷ []) (repeats_after current true rest) in
      cc

-- its start
pub at_the_start : (sorted : List (List ℕ)) → 0 < length sorted → repeats_after (get_or sorted 0 []) false (take (length sorted - 1) (drop 1 sorted)) ≡ repeats sorted
at_the_start [] l = absurd (omega arith)
at_the_start (x ∷ xs) l = ap (repeats_after x false) (take_rest (x ∷ xs) 1)
