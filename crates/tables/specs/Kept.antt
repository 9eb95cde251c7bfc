-- What the calls of a table answer of the list that it keeps.
use Rattle.std.specs.Prelude.{ℕ, Bool, cond, List, [], ◌∷◌, ◌++◌, length, Ok, Err, Result, nat_lt}
use Rattle.tables.specs.declared.table.Full.{Full}

-- a place is free where fewer than the capacity are kept
abbrev pub has_room : {X : Type 0} → ℕ → List X → Bool
has_room capacity xs = nat_lt (length xs) capacity

abbrev pub append_answer : {X : Type 0} → ℕ → List X → Result (Unit {0}) Full
append_answer capacity xs = cond (has_room capacity xs) (Ok tt) (Err (record {}))

-- the record goes to the end, where a place is free
abbrev pub appended : {X : Type 0} → ℕ → List X → X → List X
appended capacity xs x = cond (has_room capacity xs) (xs ++ x ∷ []) xs
