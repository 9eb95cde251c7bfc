-- Where a record stands in a list.
use Rattle.std.specs.Prelude.{ℕ, ◌<◌, Bool, List, length, Some, None, Option}
use Rattle.std.specs.List.{HoldsAt}

-- x is the record that the key k names
abbrev pub named : {X K : Type 0} → (X → K) → (K → K → Bool) → K → X → Bool
named key equal k x = equal (key x) k

-- a record of which P holds stands at place j
abbrev pub StandsAt : {X : Type 0} → (X → Type 0) → List X → ℕ → Type 0
StandsAt P xs j = (j < length xs) × HoldsAt P xs j

-- the answer is the first place at which a record of which P holds stands, and none where it stands at no place
unfoldable pub FirstPlace : {X : Type 0} → (X → Type 0) → List X → Option ℕ → Type 0
FirstPlace P xs None = (j : ℕ) → StandsAt P xs j → ⊥
FirstPlace P xs (Some i) = StandsAt P xs i × ((j : ℕ) → j < i → StandsAt P xs j → ⊥)
