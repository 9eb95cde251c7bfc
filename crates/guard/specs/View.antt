-- The guard and its service as the machine's state, and a call as a delivery.
use Rattle.std.specs.Prelude.{◌≡◌, ℕ, Bool, false, cond, List, Some, None, Ok, Err, Option, Result}
use Rattle.refusal.specs.declared.Refusal.{Refusal}
use Rattle.parties.specs.Commands.{Command}
use Rattle.actions.specs.Arguments.{Arguments}
use Rattle.machine.specs.Requests.{Meaning, Delivery, Presented, Signed, reading}
use Rattle.machine.specs.Machine.{State, Answer, is_accepted, owners_after, entries_after, certificates_after, sessions_after, command_asked}
use Rattle.guard.specs.declared.types.Guard.{Guard}
use Rattle.guard.specs.declared.types.Delivery as declared

abbrev pub view : Guard → ℕ → Option Command → State
view g done last = record {
  device = g.device;
  password = g.password;
  base = g.base;
  owners = g.owners;
  entries = g.entries;
  certificates = g.certificates;
  sessions = g.sessions;
  done = done;
  last = last;
}

-- the guard alone
abbrev pub alone : Guard → State
alone g = view g 0 None

abbrev pub meaning : ℕ → (List ℕ → List ℕ → List ℕ → Bool) → Meaning
meaning width stands = record { width = width; stands = stands }

abbrev pub delivery : List ℕ → ℕ → ℕ → Meaning → Meaning → Delivery
delivery bytes control clock session public = record { envelope = bytes; control = control; clock = clock; session = session; public = public }

abbrev pub presenting : Signed → ℕ → ℕ → Meaning → Meaning → Presented
presenting signed control clock session public = record { signed = signed; control = control; clock = clock; session = session; public = public }

-- what is brought to a guard as the machine's delivery, by what its verifiers mean
abbrev pub brought : {V P : Type 0} → ℕ → (V → List ℕ → List ℕ → List ℕ → Bool) → ℕ → (P → List ℕ → List ℕ → List ℕ → Bool) → declared.Delivery V P → Delivery
brought session_width session_stands public_width public_stands d =
    delivery d.envelope.now d.control d.clock (meaning session_width (session_stands d.session.now)) (meaning public_width (public_stands d.public.now))

-- a delivery with its envelope opened as this
abbrev pub opened_as : Signed → Delivery → Presented
opened_as signed d = presenting signed d.control d.clock d.session d.public

-- the service's yes or no to the command that a delivery asks for; no where it asks for none
abbrev pub taken_of : (Command → Bool) → Option Command → Bool
taken_of verdict None = false
taken_of verdict (Some c) = verdict c

abbrev pub taken_as : (Command → Bool) → Delivery → Result Arguments Refusal → Bool
taken_as verdict d (Err why) = false
taken_as verdict d (Ok asked) = taken_of verdict (command_asked d.clock asked)

abbrev pub taken : (Command → Bool) → Delivery → Bool
taken verdict d = taken_as verdict d (reading d)

-- the answer of a check that gives the place of a session where it passes
abbrev pub unplaced : {P : Type 0} → Result P Refusal → Answer
unplaced (Ok i) = Ok tt
unplaced (Err why) = Err why

-- what an action leaves of the guard: each table as the machine has it for this answer, and the rest as it was
pub record Acted (q : Signed) (asked : Arguments) (r : Answer) (before after : Guard) : Type 0 where
  pub device : after.device ≡ before.device
  pub password : after.password ≡ before.password
  pub base : after.base ≡ before.base
  pub owners : after.owners ≡ cond (is_accepted r) (owners_after q asked (before.owners)) (before.owners)
  pub entries : after.entries ≡ cond (is_accepted r) (entries_after asked (before.entries)) (before.entries)
  pub certificates : after.certificates ≡ cond (is_accepted r) (certificates_after asked (before.certificates)) (before.certificates)
  pub sessions : after.sessions ≡ cond (is_accepted r) (sessions_after q asked (before.sessions)) (before.sessions)
