-- The machine: its state, the answer to a delivery with every check in its order, and what the answer changes.
use Rattle.std.specs.Prelude.{◌≡◌, ℕ, ◌+◌, Bool, true, false, cond, not, ◌&&◌, List, [], ◌∷◌, ◌++◌, length, Some, None, Ok, Err, Option, Result, ◌==◌, nat_le, nat_lt}
use Rattle.std.specs.Str.{bytes_eq}
use Rattle.refusal.specs.declared.Refusal.{Refusal}
use Rattle.refusal.specs.declared.Refusal.TheVariants.{OtherControlNumber, WrongKind, NoSession, BadTag, StaleNumber, OtherBase, BaseExhausted, NotAuthorised, OtherDevice, BadIssuerTag, RevokesItself, NotListed, AlreadyListed, TableFull, NotTaken}
use Rattle.refusal.specs.Report.{report}
use Rattle.sessions.specs.declared.types.Session.{Session}
use Rattle.sessions.specs.Opened.{with_last}
use Rattle.parties.specs.Commands.{Command, command}
use Rattle.records.specs.declared.types.Entry.{Entry}
use Rattle.records.specs.declared.types.Certificate.{Certificate}
use Rattle.records.specs.Records.{big_endian}
use Rattle.records.specs.Equality.{same_entry, same_certificate}
use Rattle.wire.specs.declared.types.Kind.{Kind}
use Rattle.wire.specs.declared.types.Kind.TheVariants.{Unmarked as Unmarked', Session as Session', PublicKey as PublicKey'}
use Rattle.actions.specs.Arguments.{Arguments, Arguments.take_ownership, Arguments.set_session_keys, Arguments.expire_session_keys, Arguments.grant_ownership, Arguments.revoke_ownership, Arguments.add_entry, Arguments.delete_entry, Arguments.cache_certificate, Arguments.factory_security_reset, Arguments.perform}
use Rattle.machine.specs.Lists.{any_of, first_of, without, with_first}
use Rattle.machine.specs.Requests.{Delivery, Signed, signed_of, Presented, presented, time_of, reading, kind_asked}
use Rattle.machine.specs.Delegation.{Tables, is_owner, authorised}

-- what a guard keeps, and the number and the last command of its service
pub record State : Type 0 where
  pub device : List ℕ
  pub password : List ℕ
  pub base : ℕ
  pub owners : List (List ℕ)
  pub entries : List Entry
  pub certificates : List Certificate
  pub sessions : List Session
  pub done : ℕ
  pub last : Option Command

abbrev pub tables_of : State → Tables
tables_of s = record { owners = s.owners; entries = s.entries; certificates = s.certificates }

-- An answer: the request was accepted, or it was refused for a reason.
abbrev pub Answer : Type 0
Answer = Result (Unit {0}) Refusal

abbrev pub accepted : Answer
accepted = Ok tt

abbrev pub is_accepted : Answer → Bool
is_accepted (Ok x) = true
is_accepted (Err why) = false

-- A request is consumed if it passes stage 6, whatever becomes of it then.
abbrev pub is_consumed : Answer → Bool
is_consumed (Ok x) = true
is_consumed (Err why) = nat_le 7 (report why).stage

-- the first check that fails answers
abbrev pub passing : Bool → Refusal → Answer → Answer
passing true why next = next
passing false why next = Err why

abbrev pub and_then : Answer → Answer → Answer
and_then (Ok x) next = next
and_then (Err why) next = Err why

-- # Stages 2 to 6

-- a request that a session signs
abbrev pub by_session : Kind → Bool
by_session Unmarked' = false
by_session Session' = true
by_session PublicKey' = false

abbrev pub is_kind : Kind → Option Kind → Bool
is_kind kind None = false
is_kind Unmarked' (Some Unmarked') = true
is_kind Unmarked' (Some Session') = false
is_kind Unmarked' (Some PublicKey') = false
is_kind Session' (Some Unmarked') = false
is_kind Session' (Some Session') = true
is_kind Session' (Some PublicKey') = false
is_kind PublicKey' (Some Unmarked') = false
is_kind PublicKey' (Some Session') = false
is_kind PublicKey' (Some PublicKey') = true

-- the session of a request: that of its id and its signer
abbrev pub signs : Signed → Session → Bool
signs q s = s.id == q.key_number && bytes_eq s.signer q.signer

abbrev pub largest : ℕ
largest = 18446744073709551615

-- stages 4 to 6 for a request that a session signs
abbrev pub screened_by_session : Presented → Option Session → Answer
screened_by_session p None = Err NoSession
screened_by_session p (Some s) = passing (p.session.stands s.key p.signed.text p.signed.tag) BadTag (passing (nat_lt s.last p.signed.number) StaleNumber accepted)

-- the same for one that a public key signs
abbrev pub screened_by_key : ℕ → Presented → Answer
screened_by_key base p = passing (p.public.stands p.signed.signer p.signed.text p.signed.tag) BadTag (passing (p.signed.key_number == base) OtherBase (passing (nat_lt base largest) BaseExhausted accepted))

unfoldable pub screened : State → Presented → Kind → Answer
screened s p kind = passing (p.signed.control == p.control) OtherControlNumber (passing (is_kind kind p.signed.kind) WrongKind (cond (by_session kind) (screened_by_session p (first_of (signs p.signed) s.sessions)) (screened_by_key s.base p)))

-- # Stages 7 to 9

-- what the proof of a TakeOwnership stands for: the eight bytes of the key number, and the signer's hash
abbrev pub proof_text : Signed → List ℕ
proof_text q = big_endian 8 q.key_number ++ q.signer

abbrev pub owner_limit : ℕ
owner_limit = 8

abbrev pub entry_limit : ℕ
entry_limit = 32

abbrev pub certificate_limit : ℕ
certificate_limit = 16

abbrev pub session_limit : ℕ
session_limit = 16

-- a new record: it is not listed, and there is room for it
abbrev pub listing : Bool → ℕ → ℕ → Answer
listing listed count limit = passing (not listed) AlreadyListed (passing (nat_lt count limit) TableFull accepted)

abbrev pub decided : State → Presented → Bool → Arguments → Answer
decided s p taken (take_ownership proof) = passing (length s.owners == 0 && p.session.stands s.password (proof_text p.signed) proof) NotAuthorised accepted
decided s p taken (set_session_keys key) = passing (nat_lt (length s.sessions) session_limit) TableFull accepted
decided s p taken expire_session_keys = accepted
decided s p taken (grant_ownership hash) = passing (is_owner s.owners p.signed.signer) NotAuthorised (listing (is_owner s.owners hash) (length s.owners) owner_limit)
decided s p taken (revoke_ownership hash) = passing (is_owner s.owners p.signed.signer) NotAuthorised (passing (not (bytes_eq p.signed.signer hash)) RevokesItself (passing (is_owner s.owners hash) NotListed accepted))
decided s p taken (add_entry entry) = passing (is_owner s.owners p.signed.signer) NotAuthorised (listing (any_of (λ e. same_entry e entry) s.entries) (length s.entries) entry_limit)
decided s p taken (delete_entry entry) = passing (is_owner s.owners p.signed.signer) NotAuthorised (passing (any_of (λ e. same_entry e entry) s.entries) NotListed accepted)
decided s p taken (cache_certificate certificate bytes tag) = passing (bytes_eq certificate.device s.device) OtherDevice (passing (p.public.stands certificate.issuer bytes tag) BadIssuerTag (listing (any_of (λ c. same_certificate c certificate) s.certificates) (length s.certificates) certificate_limit))
decided s p taken factory_security_reset = passing (is_owner s.owners p.signed.signer) NotAuthorised accepted
decided s p taken (perform name payload) = passing (authorised (tables_of s) (time_of p) name p.signed.signer) NotAuthorised (passing taken NotTaken accepted)

-- # The answer

abbrev pub judged : State → Delivery → Bool → Result Arguments Refusal → Answer
judged s d taken (Err why) = Err why
judged s d taken (Ok asked) = and_then (screened s (presented d) (kind_asked asked)) (decided s (presented d) taken asked)

-- the answer to a delivery, where `taken` is the service's yes or no to the command, if it is asked
unfoldable pub answer : State → Delivery → Bool → Answer
answer s d taken = judged s d taken (reading d)

-- # What an accepted request changes

abbrev pub owners_after : Signed → Arguments → List (List ℕ) → List (List ℕ)
owners_after q (take_ownership proof) owners = owners ++ q.signer ∷ []
owners_after q (set_session_keys key) owners = owners
owners_after q expire_session_keys owners = owners
owners_after q (grant_ownership hash) owners = owners ++ hash ∷ []
owners_after q (revoke_ownership hash) owners = without (λ o. bytes_eq o hash) owners
owners_after q (add_entry entry) owners = owners
owners_after q (delete_entry entry) owners = owners
owners_after q (cache_certificate certificate bytes tag) owners = owners
owners_after q factory_security_reset owners = []
owners_after q (perform name payload) owners = owners

abbrev pub entries_after : Arguments → List Entry → List Entry
entries_after (take_ownership proof) entries = entries
entries_after (set_session_keys key) entries = entries
entries_after expire_session_keys entries = entries
entries_after (grant_ownership hash) entries = entries
entries_after (revoke_ownership hash) entries = entries
entries_after (add_entry entry) entries = entries ++ entry ∷ []
entries_after (delete_entry entry) entries = without (λ e. same_entry e entry) entries
entries_after (cache_certificate certificate bytes tag) entries = entries
entries_after factory_security_reset entries = []
entries_after (perform name payload) entries = entries

abbrev pub certificates_after : Arguments → List Certificate → List Certificate
certificates_after (take_ownership proof) certificates = certificates
certificates_after (set_session_keys key) certificates = certificates
certificates_after expire_session_keys certificates = certificates
certificates_after (grant_ownership hash) certificates = certificates
certificates_after (revoke_ownership hash) certificates = certificates
certificates_after (add_entry entry) certificates = certificates
certificates_after (delete_entry entry) certificates = certificates
certificates_after (cache_certificate certificate bytes tag) certificates = certificates ++ certificate ∷ []
certificates_after factory_security_reset certificates = []
certificates_after (perform name payload) certificates = certificates

-- a new session has the request's base as its id, and 0 as its last number
abbrev pub new_session : Signed → List ℕ → Session
new_session q key = record { id = q.key_number; signer = q.signer; key = key; last = 0 }

abbrev pub sessions_after : Signed → Arguments → List Session → List Session
sessions_after q (take_ownership proof) sessions = sessions
sessions_after q (set_session_keys key) sessions = sessions ++ new_session q key ∷ []
sessions_after q expire_session_keys sessions = without (signs q) sessions
sessions_after q (grant_ownership hash) sessions = sessions
sessions_after q (revoke_ownership hash) sessions = sessions
sessions_after q (add_entry entry) sessions = sessions
sessions_after q (delete_entry entry) sessions = sessions
sessions_after q (cache_certificate certificate bytes tag) sessions = sessions
sessions_after q factory_security_reset sessions = []
sessions_after q (perform name payload) sessions = sessions

-- # What a consumed request uses up

-- the base, by a request that a public key signs
abbrev pub base_after : Bool → Kind → ℕ → ℕ
base_after consumed kind base = cond (consumed && not (by_session kind)) (base + 1) base

-- the last number of its session, by any other
abbrev pub number_used : Bool → Kind → Signed → List Session → List Session
number_used consumed kind q sessions = cond (consumed && by_session kind) (with_first (signs q) (with_last q.number) sessions) sessions

abbrev pub sessions_used : State → Delivery → Answer → Arguments → List Session
sessions_used s d a asked = number_used (is_consumed a) (kind_asked asked) (signed_of d) s.sessions

-- # The service

-- the command that a Perform gives, with the reading of the clock
abbrev pub command_asked : ℕ → Arguments → Option Command
command_asked clock (take_ownership proof) = None
command_asked clock (set_session_keys key) = None
command_asked clock expire_session_keys = None
command_asked clock (grant_ownership hash) = None
command_asked clock (revoke_ownership hash) = None
command_asked clock (add_entry entry) = None
command_asked clock (delete_entry entry) = None
command_asked clock (cache_certificate certificate bytes tag) = None
command_asked clock factory_security_reset = None
command_asked clock (perform name payload) = Some (command name payload clock)

abbrev pub done_after : Option Command → ℕ → ℕ
done_after None done = done
done_after (Some c) done = done + 1

abbrev pub last_after : Option Command → Option Command → Option Command
last_after None last = last
last_after (Some c) last = Some c

-- # The state after an answer

abbrev pub changed_by : State → Delivery → Answer → Result Arguments Refusal → State
changed_by s d a (Err why) = s
changed_by s d a (Ok asked) = record {
  device = s.device;
  password = s.password;
  base = base_after (is_consumed a) (kind_asked asked) s.base;
  owners = cond (is_accepted a) (owners_after (signed_of d) asked s.owners) s.owners;
  entries = cond (is_accepted a) (entries_after asked s.entries) s.entries;
  certificates = cond (is_accepted a) (certificates_after asked s.certificates) s.certificates;
  sessions = cond (is_accepted a) (sessions_after (signed_of d) asked (sessions_used s d a asked)) (sessions_used s d a asked);
  done = cond (is_accepted a) (done_after (command_asked d.clock asked) s.done) s.done;
  last = cond (is_accepted a) (last_after (command_asked d.clock asked) s.last) s.last;
}

unfoldable pub changed : State → Delivery → Answer → State
changed s d a = changed_by s d a (reading d)

-- the command that is given to the service, if any: that of a Perform that passes stages 1 to 7
abbrev pub given_by : State → Delivery → Result Arguments Refusal → Option Command
given_by s d (Err why) = None
given_by s d (Ok asked) = cond (is_accepted (and_then (screened s (presented d) (kind_asked asked)) (decided s (presented d) true asked))) (command_asked d.clock asked) None

unfoldable pub given : State → Delivery → Option Command
given s d = given_by s d (reading d)

-- one step: the answer, the state after it, and the command that is given to the service
abbrev pub step : State → Delivery → Bool → Answer × State × Option Command
step s d taken = (answer s d taken, changed s d (answer s d taken), given s d)

-- # What becomes of a command

-- the command that the service does: the one given to it, if it takes it
abbrev pub done_by : Bool → Option Command → Option Command
done_by taken given = cond taken given None

-- the service counts and keeps the command that it was given and took, and no other
abbrev pub TheServiceDoesWhatItIsGivenAndTakes : Type 0
TheServiceDoesWhatItIsGivenAndTakes = (s : State) (d : Delivery) (taken : Bool)
    → ((changed s d (answer s d taken)).done ≡ done_after (done_by taken (given s d)) s.done) × ((changed s d (answer s d taken)).last ≡ last_after (done_by taken (given s d)) s.last)
