-- A history that the machine can have.
use Rattle.std.specs.Prelude.{◌≡◌, ℕ, ◌*◌, Bool, true, false, List, [], ◌∷◌, ◌++◌, length, take, replicate, None, codes}
use Rattle.std.specs.Str.{bytes_eq}
use Rattle.keyhash.specs.Element.{element}
use Rattle.records.specs.declared.types.Scope.{Scope}
use Rattle.records.specs.declared.types.Certificate.{Certificate}
use Rattle.records.specs.Records.{entry, entry_bytes, certificate, certificate_bytes}
use Rattle.wire.specs.declared.types.Kind.{Kind}
use Rattle.wire.specs.declared.types.Kind.TheVariants.{Session, PublicKey}
use Rattle.wire.specs.Writing.{signed_text_of}
use Rattle.machine.specs.Requests.{Meaning, Delivery}
use Rattle.machine.specs.Machine.{State, answer, changed}
use Rattle.machine.specs.Delegation.{InForce, Link, Entered}
use Rattle.machine.specs.History.{Event, Making, Owner, in_force, Due}
use Rattle.machine.specs.Law.{done_now, state_after, Lived}

-- # Playing deliveries

-- what is delivered, with the service's yes or no to its command
pub record Attempt : Type 0 where
  pub delivery : Delivery
  pub taken : Bool

-- the event that the machine makes of an attempt
abbrev pub event_of : State → Attempt → Event
event_of s a = record {
  delivery = a.delivery;
  taken = a.taken;
  answer = answer s a.delivery a.taken;
  done = (changed s a.delivery (answer s a.delivery a.taken)).done;
  last = (changed s a.delivery (answer s a.delivery a.taken)).last;
}

-- the events of a list of attempts, newest first in both
unfoldable pub played : Making → List Attempt → List Event
played m [] = []
played m (a ∷ earlier) = event_of (state_after m (played m earlier)) a ∷ played m earlier

-- # The deliveries of the example

-- tags of one byte: the first byte of the key
abbrev pub first_byte : Meaning
first_byte = record { width = 1; stands = λ key text tag. bytes_eq (take 1 key) tag }

abbrev pub key : ℕ → List ℕ
key n = replicate 20 n

-- an envelope for control number 0
unfoldable pub sealed : Kind → ℕ → ℕ → ℕ → List ℕ → List ℕ → List ℕ → List ℕ
sealed kind action key_number number who arguments tag =
    signed_text_of (length tag) (record { kind = kind; action_code = action; control_number = 0; key_number = key_number; sequence_number = number; signer = who; arguments = arguments }) ++ tag

abbrev pub attempt : List ℕ → Attempt
attempt bytes = record { delivery = record { envelope = bytes; control = 0; clock = 50; session = first_byte; public = first_byte }; taken = true }

-- signed by a public key, and by a session that the key n × 0x11 opened
abbrev pub by_key : ℕ → ℕ → ℕ → List ℕ → Attempt
by_key action base n arguments = attempt (sealed PublicKey action base 0 (key n) arguments (n ∷ []))

abbrev pub by_session : ℕ → ℕ → ℕ → ℕ → List ℕ → Attempt
by_session action id number n arguments = attempt (sealed Session action id number (key n) arguments (n * 0x11 ∷ []))

abbrev pub opens : ℕ → ℕ → Attempt
opens base n = by_key 0x02 base n (key (n * 0x11))

abbrev pub switches : ℕ → ℕ → ℕ → Attempt
switches id number n = by_session 0x0A id number n (9 ∷ codes "SetTarget" ++ 0 ∷ 1 ∷ [])

-- for every name, from 0 to 100
abbrev pub scope : Bool → Scope
scope flag = record { delegate = flag; not_before = 0; not_after = 100; term_length = 1; term = 1 ∷ replicate 47 0 }

abbrev pub making : Making
making = record { device = key 0xDD; password = key 0; base = 5; done = 0; last = None }

-- The owner is 1, a tenant 2, an agent 3, the agent's guest 4, and a partner 5.
abbrev pub to_agent : Certificate
to_agent = certificate (key 1) (key 3) (key 0xDD) (scope true)

abbrev pub to_guest : Certificate
to_guest = certificate (key 3) (key 4) (key 0xDD) (scope false)

abbrev pub opened_by_owner : List Attempt
opened_by_owner = opens 6 1 ∷ by_key 0x01 5 1 (0 ∷ []) ∷ []

abbrev pub owner_switches : Attempt
owner_switches = switches 6 1 1

-- the owner adds an entry for the tenant, who opens a session
abbrev pub opened_by_tenant : List Attempt
opened_by_tenant = opens 7 2 ∷ by_session 0x06 6 2 1 (entry_bytes (entry (key 2) (scope false))) ∷ owner_switches ∷ opened_by_owner

abbrev pub tenant_switches : Attempt
tenant_switches = switches 7 1 2

-- the guest opens a session, and caches what the owner certified to the agent and the agent to the guest
abbrev pub cached_by_guest : List Attempt
cached_by_guest =
    by_session 0x08 8 2 4 (certificate_bytes to_guest ++ 3 ∷ [])
    ∷ by_session 0x08 8 1 4 (certificate_bytes to_agent ++ 1 ∷ [])
    ∷ opens 8 4
    ∷ tenant_switches
    ∷ opened_by_tenant

abbrev pub guest_switches : Attempt
guest_switches = switches 8 3 4

-- the owner grants ownership to the partner, who opens a session
abbrev pub opened_by_partner : List Attempt
opened_by_partner = opens 9 5 ∷ by_session 0x04 6 3 1 (element (key 5)) ∷ guest_switches ∷ cached_by_guest

abbrev pub partner_switches : Attempt
partner_switches = switches 9 1 5

-- the owner revokes it
abbrev pub revoked_by_owner : List Attempt
revoked_by_owner = by_session 0x05 6 4 1 (element (key 5)) ∷ partner_switches ∷ opened_by_partner

abbrev pub partner_tries_again : Attempt
partner_tries_again = switches 9 2 5

abbrev pub whole : List Attempt
whole = partner_tries_again ∷ revoked_by_owner

-- # What it shows

abbrev pub past : List Attempt → List Event
past earlier = played making earlier

abbrev pub event_after : List Attempt → Attempt → Event
event_after earlier a = event_of (state_after making (past earlier)) a

abbrev pub name : List ℕ
name = codes "SetTarget"

-- the hash is at the end of two links that begin with an owner
pub record ByTwoLinks (now : InForce) (hash : List ℕ) : Type 0 where
  pub first : Certificate
  pub second : Certificate
  pub begins : now.Owner first.issuer
  pub first_applies : Link now 50 name first
  pub first_has_its_flag : first.scope.delegate ≡ true
  pub second_follows : first.subject ≡ second.issuer
  pub second_applies : Link now 50 name second
  pub second_ends : second.subject ≡ hash

pub record AnExampleShowsWhatIsDue : Type 0 where
  pub the_machine_can_have_it : Lived (record { making = making; events = past whole }) (state_after making (past whole))
  -- by ownership
  pub owner_is_one : Owner (past opened_by_owner) (key 1)
  pub owner_is_due : Due (past opened_by_owner) (event_after opened_by_owner owner_switches)
  -- by an entry alone
  pub tenant_is_no_owner : Owner (past opened_by_tenant) (key 2) → ⊥
  pub tenant_is_entered : Entered (in_force (past opened_by_tenant)) 50 name (key 2)
  pub tenant_is_due : Due (past opened_by_tenant) (event_after opened_by_tenant tenant_switches)
  -- by a chain alone
  pub guest_is_no_owner : Owner (past cached_by_guest) (key 4) → ⊥
  pub guest_is_not_entered : Entered (in_force (past cached_by_guest)) 50 name (key 4) → ⊥
  pub guest_has_two_links : ByTwoLinks (in_force (past cached_by_guest)) (key 4)
  pub guest_is_due : Due (past cached_by_guest) (event_after cached_by_guest guest_switches)
  -- until a revocation
  pub partner_is_due : Due (past opened_by_partner) (event_after opened_by_partner partner_switches)
  pub revoked_partner_is_no_owner : Owner (past revoked_by_owner) (key 5) → ⊥
  pub revoked_partner_is_not_due : Due (past revoked_by_owner) (event_after revoked_by_owner partner_tries_again) → ⊥
  -- and the service has done the four, and nothing else
  pub four_are_done : done_now making (past whole) ≡ 4
