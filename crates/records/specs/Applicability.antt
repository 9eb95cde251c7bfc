-- When a scope applies, and to which names.
use Rattle.std.specs.Prelude.{ℕ, ◌≤◌, Bool, false, ◌&&◌, List, Decides, nat_le}
use Rattle.std.specs.Result.{result_unwrap_or}
use Rattle.permission.specs.Names.{IsName}
use Rattle.permission.specs.Reading.{covering}
use Rattle.permission.specs.Terms.{Term, WellFormed, Encodes, Covers}
use Rattle.records.specs.declared.types.Scope.{Scope}
use Rattle.records.specs.Records.{term_bytes}

-- the clock is in the scope's window, and its term covers the name
unfoldable pub applicable : Scope → ℕ → List ℕ → Bool
applicable s clock name = (nat_le s.not_before clock && nat_le clock s.not_after) && result_unwrap_or (covering (term_bytes s) name) false

-- the same, said of the term that the bytes encode
pub record Applicable (s : Scope) (clock : ℕ) (name : List ℕ) : Type 0 where
  pub begun : s.not_before ≤ clock
  pub not_over : clock ≤ s.not_after
  pub covers : (term : Term) × WellFormed term × Encodes term (term_bytes s) × Covers term name

-- of a name, the test says so exactly where the scope applies to it
abbrev pub TestDecidesForNames : Type 0
TestDecidesForNames = (s : Scope) (clock : ℕ) (name : List ℕ) → IsName name → Decides (applicable s clock name) (Applicable s clock name)
