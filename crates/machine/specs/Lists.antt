-- Ordered tables as lists: what is in them, and what a removal or a change of the first record that passes a test leaves.
use Rattle.std.specs.Prelude.{◌≡◌, Bool, false, cond, ◌||◌, ◌⊎◌, List, [], ◌∷◌, Some, None, Option}

abbrev pub Member : {X : Type 0} → X → List X → Type 0
Member x [] = ⊥
Member x (y ∷ ys) = (x ≡ y) ⊎ Member x ys

abbrev pub Distinct : {X : Type 0} → List X → Type 0
Distinct [] = Unit {0}
Distinct (x ∷ xs) = (Member x xs → ⊥) × Distinct xs

-- whether some record passes the test
abbrev pub any_of : {X : Type 0} → (X → Bool) → List X → Bool
any_of test [] = false
any_of test (x ∷ xs) = test x || any_of test xs

-- the first record that passes
abbrev pub first_of : {X : Type 0} → (X → Bool) → List X → Option X
first_of test [] = None
first_of test (x ∷ xs) = cond (test x) (Some x) (first_of test xs)

-- all that pass, in their order
abbrev pub all_of : {X : Type 0} → (X → Bool) → List X → List X
all_of test [] = []
all_of test (x ∷ xs) = cond (test x) (x ∷ all_of test xs) (all_of test xs)

-- the list without the first record that passes
abbrev pub without : {X : Type 0} → (X → Bool) → List X → List X
without test [] = []
without test (x ∷ xs) = cond (test x) xs (x ∷ without test xs)

-- the list with the first record that passes changed
abbrev pub with_first : {X : Type 0} → (X → Bool) → (X → X) → List X → List X
with_first test change [] = []
with_first test change (x ∷ xs) = cond (test x) (change x ∷ xs) (x ∷ with_first test change xs)
