-- What bytes and a name answer, said of the term that the bytes encode.
use Rattle.std.specs.Prelude.{◌≡◌, ℕ, Bool, true, false, List, Ok, Err, Result}
use Rattle.refusal.specs.declared.Refusal.{Refusal}
use Rattle.refusal.specs.declared.Refusal.TheVariants.{Malformed}
use Rattle.permission.specs.Names.{IsName}
use Rattle.permission.specs.Terms.{Term, Encodes, WellFormed, Covers}

abbrev pub SomeWellFormedTerm : List ℕ → Type 0
SomeWellFormedTerm bytes = (term : Term) × WellFormed term × Encodes term bytes

-- yes and no speak of a name and of the well-formed term that the bytes encode; with no such name or no such term they are malformed
abbrev pub Answers : List ℕ → List ℕ → Result Bool Refusal → Type 0
Answers bytes name (Ok true) = IsName name × ((term : Term) × WellFormed term × Encodes term bytes × Covers term name)
Answers bytes name (Ok false) = IsName name × ((term : Term) × WellFormed term × Encodes term bytes × (Covers term name → ⊥))
Answers bytes name (Err why) = (why ≡ Malformed) × (IsName name → SomeWellFormedTerm bytes → ⊥)

abbrev pub OnlyAnswer : List ℕ → List ℕ → Result Bool Refusal → Type 0
OnlyAnswer bytes name answer = (other : Result Bool Refusal) → Answers bytes name other → other ≡ answer

-- these bytes encode no two terms, well formed or not
abbrev pub OneTermAtMost : List ℕ → Type 0
OneTermAtMost bytes = (one other : Term) → Encodes one bytes → Encodes other bytes → one ≡ other
