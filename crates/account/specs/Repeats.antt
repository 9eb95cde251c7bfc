-- Which hashes came more than once.
use Rattle.std.specs.Prelude.{◌≡◌, ℕ, Bool, true, false, cond, List, [], ◌∷◌, nat_le}
use Rattle.std.specs.List.{sum_by}
use Rattle.std.specs.Str.{bytes_eq}

-- 1 where two hashes are the same
abbrev pub one_if : List ℕ → List ℕ → ℕ
one_if hash other = cond (bytes_eq hash other) 1 0

-- how often a hash is among some
abbrev pub times : List ℕ → List (List ℕ) → ℕ
times hash others = sum_by (one_if hash) others

-- a list has each hash that came more than once, once, and no other
abbrev pub ListsEachRepeatedHashOnce : List (List ℕ) → List (List ℕ) → Type 0
ListsEachRepeatedHashOnce hashes list = (hash : List ℕ) → times hash list ≡ cond (nat_le 2 (times hash hashes)) 1 0

-- the hashes that equal the one before them, each once, where equal ones stand together: `current` stands before the
-- rest, and `listed` says whether it has been listed
abbrev pub repeats_after : List ℕ → Bool → List (List ℕ) → List (List ℕ)
repeats_after current listed [] = []
repeats_after current listed (hash ∷ rest) =
    cond (bytes_eq current hash)
    (cond listed (repeats_after current true rest) (current ∷ repeats_after current true rest))
    (repeats_after hash false rest)

abbrev pub repeats : List (List ℕ) → List (List ℕ)
repeats [] = []
repeats (hash ∷ rest) = repeats_after hash false rest
