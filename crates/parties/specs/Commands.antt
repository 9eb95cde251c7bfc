-- Commands, and what becomes of a service that is given one.
use Rattle.std.specs.Prelude.{◌≡◌, ℕ, ◌≤◌, List, length}
use Rattle.parties.specs.declared.command.CommandView.{CommandView}

pub record Command : Type 0 where
  pub name : List ℕ
  pub payload : List ℕ
  pub clock : ℕ

abbrev pub command : List ℕ → List ℕ → ℕ → Command
command n p t = record { name = n; payload = p; clock = t }

abbrev pub viewed : CommandView → Command
viewed v = command v.name.now v.payload.now v.clock

-- The sizes that a command can have.
pub record WellSized (c : Command) : Type 0 where
  pub named : 1 ≤ length c.name
  pub short_name : length c.name ≤ 16
  pub short_payload : length c.payload ≤ 512

-- The most commands that are counted, 2^64 − 1.
abbrev pub limit : ℕ
limit = 18446744073709551615

-- What a service holds after a command that it did not take: everything, as it was.
abbrev pub Untouched : {S : Type 0} → S → S → Type 0
Untouched before after = after ≡ before
