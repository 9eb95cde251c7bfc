-- The history of a guard, as a record of what was delivered and answered, and what is read off it. Nothing here speaks of the
-- machine's state: an auditor can judge these definitions by the record alone.
use Rattle.std.specs.Prelude.{◌≡◌, ℕ, ◌<◌, Bool, true, false, ◌⊎◌, List, [], ◌∷◌, Some, None, Ok, Err, Option, Result, ◌≢◌}
use Rattle.refusal.specs.declared.Refusal.{Refusal}
use Rattle.sessions.specs.declared.types.SessionName.{SessionName}
use Rattle.parties.specs.Commands.{Command, command}
use Rattle.records.specs.declared.types.Entry.{Entry}
use Rattle.records.specs.declared.types.Certificate.{Certificate}
use Rattle.wire.specs.declared.types.Kind.TheVariants.{Session}
use Rattle.wire.specs.Envelope.{control_number, key_number, sequence_number, signer, kind_of}
use Rattle.actions.specs.Arguments.{Arguments, Arguments.take_ownership, Arguments.set_session_keys, Arguments.expire_session_keys, Arguments.grant_ownership, Arguments.revoke_ownership, Arguments.add_entry, Arguments.delete_entry, Arguments.cache_certificate, Arguments.factory_security_reset, Arguments.perform}
use Rattle.machine.specs.Requests.{Delivery, text_of, tag_of, presented, time_of, reading, kind_asked}
use Rattle.machine.specs.Machine.{Answer, is_accepted, is_consumed}
use Rattle.machine.specs.Delegation.{InForce, Authorised}

-- # The record

-- One delivery with its answer; the service's yes or no to the command just before it, which is read only where the delivery is
-- a well-formed Perform; and the service's number and last command after it.
pub record Event : Type 0 where
  pub delivery : Delivery
  pub taken : Bool
  pub answer : Answer
  pub done : ℕ
  pub last : Option Command

-- What a guard is made from, and the service's number and last command then.
pub record Making : Type 0 where
  pub device : List ℕ
  pub password : List ℕ
  pub base : ℕ
  pub done : ℕ
  pub last : Option Command

-- The events stand newest first, so the events before one are the list behind it.
pub record History : Type 0 where
  pub making : Making
  pub events : List Event

-- # What an event says

abbrev pub signed_in : Event → List ℕ
signed_in e = text_of e.delivery

-- the name of the session that an event speaks for: its id and its signer
abbrev pub session_name : Event → SessionName
session_name e = record { id = key_number (signed_in e); signer = signer (signed_in e) }

abbrev pub Consumed : Event → Type 0
Consumed e = is_consumed e.answer ≡ true

abbrev pub SignedBySession : Event → Type 0
SignedBySession e = kind_of (signed_in e) ≡ Some Session

-- what an event asked for and was granted
abbrev pub granted_in : Bool → Result Arguments Refusal → Option Arguments
granted_in accepted (Err why) = None
granted_in false (Ok asked) = None
granted_in true (Ok asked) = Some asked

abbrev pub granted : Event → Option Arguments
granted e = granted_in (is_accepted e.answer) (reading e.delivery)

-- # What is in force

-- what an event does to the records that are in force
pub data Change (X : Type 0) : Type 0 where
  nothing : Change X
  adds : X → Change X
  removes : X → Change X
  empties : Change X

-- whether a record is in force after a change, where it was in force before it as `was` says
abbrev pub StillInForce : {X : Type 0} → Change X → X → Type 0 → Type 0
StillInForce nothing x was = was
StillInForce (adds y) x was = (x ≡ y) ⊎ was
StillInForce (removes y) x was = (x ≢ y) × was
StillInForce empties x was = ⊥

-- the latest event that adds this record, removes it, or empties all, added it
abbrev pub HeldBy : {X : Type 0} → (Event → Change X) → List Event → X → Type 0
HeldBy change [] x = ⊥
HeldBy change (e ∷ past) x = StillInForce (change e) x (HeldBy change past x)

-- Owners: a take adds its signer, a grant the hash that it names, a revocation removes the hash that it names.
abbrev pub owners_by : List ℕ → Option Arguments → Change (List ℕ)
owners_by who None = nothing
owners_by who (Some (take_ownership proof)) = adds who
owners_by who (Some (set_session_keys key)) = nothing
owners_by who (Some expire_session_keys) = nothing
owners_by who (Some (grant_ownership hash)) = adds hash
owners_by who (Some (revoke_ownership hash)) = removes hash
owners_by who (Some (add_entry entry)) = nothing
owners_by who (Some (delete_entry entry)) = nothing
owners_by who (Some (cache_certificate certificate bytes tag)) = nothing
owners_by who (Some factory_security_reset) = empties
owners_by who (Some (perform name payload)) = nothing

abbrev pub owner_change : Event → Change (List ℕ)
owner_change e = owners_by (signer (signed_in e)) (granted e)

unfoldable pub Owner : List Event → List ℕ → Type 0
Owner = HeldBy owner_change

-- Entries: an addition adds, a deletion removes.
abbrev pub entries_by : Option Arguments → Change Entry
entries_by None = nothing
entries_by (Some (take_ownership proof)) = nothing
entries_by (Some (set_session_keys key)) = nothing
entries_by (Some expire_session_keys) = nothing
entries_by (Some (grant_ownership hash)) = nothing
entries_by (Some (revoke_ownership hash)) = nothing
entries_by (Some (add_entry entry)) = adds entry
entries_by (Some (delete_entry entry)) = removes entry
entries_by (Some (cache_certificate certificate bytes tag)) = nothing
entries_by (Some factory_security_reset) = empties
entries_by (Some (perform name payload)) = nothing

abbrev pub entry_change : Event → Change Entry
entry_change e = entries_by (granted e)

unfoldable pub EntryInForce : List Event → Entry → Type 0
EntryInForce = HeldBy entry_change

-- Certificates: from its caching to the next reset.
abbrev pub certificates_by : Option Arguments → Change Certificate
certificates_by None = nothing
certificates_by (Some (take_ownership proof)) = nothing
certificates_by (Some (set_session_keys key)) = nothing
certificates_by (Some expire_session_keys) = nothing
certificates_by (Some (grant_ownership hash)) = nothing
certificates_by (Some (revoke_ownership hash)) = nothing
certificates_by (Some (add_entry entry)) = nothing
certificates_by (Some (delete_entry entry)) = nothing
certificates_by (Some (cache_certificate certificate bytes tag)) = adds certificate
certificates_by (Some factory_security_reset) = empties
certificates_by (Some (perform name payload)) = nothing

abbrev pub certificate_change : Event → Change Certificate
certificate_change e = certificates_by (granted e)

unfoldable pub CertificateInForce : List Event → Certificate → Type 0
CertificateInForce = HeldBy certificate_change

-- Sessions: from the opening to the expiry or a reset.
abbrev pub sessions_by : SessionName → Option Arguments → Change SessionName
sessions_by name None = nothing
sessions_by name (Some (take_ownership proof)) = nothing
sessions_by name (Some (set_session_keys key)) = adds name
sessions_by name (Some expire_session_keys) = removes name
sessions_by name (Some (grant_ownership hash)) = nothing
sessions_by name (Some (revoke_ownership hash)) = nothing
sessions_by name (Some (add_entry entry)) = nothing
sessions_by name (Some (delete_entry entry)) = nothing
sessions_by name (Some (cache_certificate certificate bytes tag)) = nothing
sessions_by name (Some factory_security_reset) = empties
sessions_by name (Some (perform words payload)) = nothing

abbrev pub session_change : Event → Change SessionName
session_change e = sessions_by (session_name e) (granted e)

unfoldable pub Established : List Event → SessionName → Type 0
Established = HeldBy session_change

-- the key of a session is the one that its opening brought
pub data OpenedWith (name : SessionName) (key : List ℕ) : List Event → Type 0 where
  here : (e : Event) (past : List Event) → granted e ≡ Some (set_session_keys key) → session_name e ≡ name → OpenedWith name key (e ∷ past)
  before : (e : Event) (past : List Event) → ((other : List ℕ) → granted e ≡ Some (set_session_keys other) → session_name e ≢ name) → OpenedWith name key past → OpenedWith name key (e ∷ past)

-- # What may be done

-- the number is above 0 and above every number that was consumed in the session
abbrev pub Fresh : List Event → SessionName → ℕ → Type 0
Fresh [] name n = 0 < n
Fresh (e ∷ past) name n = (Consumed e → SignedBySession e → session_name e ≡ name → sequence_number (signed_in e) < n) × Fresh past name n

abbrev pub in_force : List Event → InForce
in_force past = record { Owner = Owner past; EntryHeld = EntryInForce past; CertificateHeld = CertificateInForce past }

-- a well-formed Perform: its header, its arguments and its kind are sound
pub record WellFormedPerform (e : Event) : Type 0 where
  pub name : List ℕ
  pub payload : List ℕ
  pub asks : reading e.delivery ≡ Ok (perform name payload)
  pub kind : kind_of (signed_in e) ≡ Some (kind_asked (perform name payload))

-- a Perform that the law obliges the service to have done, judged by the events before it
pub record Due (past : List Event) (e : Event) : Type 0 where
  pub well_formed : WellFormedPerform e
  pub addressed_here : control_number (signed_in e) ≡ e.delivery.control
  pub established : Established past (session_name e)
  pub key : List ℕ
  pub opened : OpenedWith (session_name e) key past
  pub tagged : e.delivery.session.stands key (signed_in e) (tag_of e.delivery) ≡ true
  pub fresh : Fresh past (session_name e) (sequence_number (signed_in e))
  pub authorised : Authorised (in_force past) (time_of (presented e.delivery)) well_formed.name (signer (signed_in e))
  pub taken : e.taken ≡ true

-- the command of a due Perform
abbrev pub command_of : (past : List Event) (e : Event) → Due past e → Command
command_of past e due = command due.well_formed.name due.well_formed.payload e.delivery.clock
