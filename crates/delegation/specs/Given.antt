-- The tables that are searched, and what is asked of them.
use Rattle.std.specs.Prelude.{ℕ, List}
use Rattle.records.specs.declared.types.Entry.{Entry}
use Rattle.records.specs.declared.types.Certificate.{Certificate}
use Rattle.machine.specs.Delegation.{Tables}

-- what three tables keep
abbrev pub tables_of : List (List ℕ) → List Entry → List Certificate → Tables
tables_of o e c = record { owners = o; entries = e; certificates = c }

-- whether the signer may use the name at the clock, by what the tables keep
pub record Asked : Type 0 where
  pub tables : Tables
  pub clock : ℕ
  pub name : List ℕ
  pub signer : List ℕ
