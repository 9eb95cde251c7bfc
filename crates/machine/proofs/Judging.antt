-- What an answer of the machine says of the delivery.
use Rattle.std.proofs.Common.{◌≡◌, ℕ, ◌+◌, ◌<◌, Bool, true, false, cond, ◌&&◌, eqb, ltb, leb, List, [], ◌∷◌, length, take, drop, Some, None, Ok, Err, Option, Result, sym, refl, ◌∙◌, subst, arith}
use Rattle.std.proofs.lemmas.Bool.{true≢false, false≢true, ltb-true, eqb-true, and_parts}
use Rattle.refusal.specs.declared.Refusal.{Refusal}
use Rattle.refusal.specs.declared.Refusal.TheVariants.{Malformed, UnknownAction, OtherControlNumber, WrongKind, BadTag, StaleNumber, OtherBase, BaseExhausted}
use Rattle.refusal.specs.Report.{report}
use Rattle.permission.specs.Reading.{is_name}
use Rattle.records.specs.Records.{certificate_in}
use Rattle.sessions.specs.declared.types.Session.{Session}
use Rattle.wire.specs.declared.types.Kind.{Kind}
use Rattle.wire.specs.declared.types.Kind.TheVariants.{Unmarked as Unmarked', Session as Session', PublicKey as PublicKey'}
use Rattle.wire.specs.Envelope.{sound_header, action_code, arguments, control_number, key_number, sequence_number, signer, kind_of}
use Rattle.actions.specs.declared.types.Action.{Action}
use Rattle.actions.specs.declared.types.Action.TheVariants.{TakeOwnership, SetSessionKeys, ExpireSessionKeys, GrantOwnership, RevokeOwnership, AddAclEntry, DeleteAclEntry, CacheCertificate, FactorySecurityReset, Perform}
use Rattle.actions.specs.Codes.{action_of}
use Rattle.actions.specs.Arguments.{Arguments, Arguments.take_ownership, Arguments.set_session_keys, Arguments.expire_session_keys, Arguments.grant_ownership, Arguments.revoke_ownership, Arguments.add_entry, Arguments.delete_entry, Arguments.cache_certificate, Arguments.factory_security_reset, Arguments.perform, arguments_in, made_of, bytes_in, nothing_in, caching_of, caching_in, performing_of, perform_in, longest_payload, certificate_length}
use Rattle.actions.specs.Arguments.{or_malformed as sound_or}
use Rattle.machine.specs.Lists.{first_of}
use Rattle.machine.specs.Requests.{Delivery, text_of, tag_of, signed_of, presented, or_malformed, asked_by, reading_in, reading}
use Rattle.machine.specs.Machine.{State, Answer, accepted, is_accepted, is_consumed, passing, and_then, by_session, is_kind, signs, largest, screened_by_session, screened_by_key, screened}

-- ## Answers

pub passed : (b : Bool) (why : Refusal) (next : Answer) → leb 7 (report why).stage ≡ false → is_consumed (passing b why next) ≡ true → (b ≡ true) × (is_consumed next ≡ true)
passed true why next l h = (refl, h)
passed false why next l h = absurd (true≢false (sym h ∙ l))

pub accepted_passing : (b : Bool) (why : Refusal) (next : Answer) → is_accepted (passing b why next) ≡ true → (b ≡ true) × (is_accepted next ≡ true)
accepted_passing true why next h = (refl, h)
accepted_passing false why next h = absurd (false≢true h)

pub passing_true : (b : Bool) (why : Refusal) (next : Answer) → b ≡ true → passing b why next ≡ next
passing_true true why next e = refl
passing_true false why next e = absurd (false≢true e)

pub consumed_first : (a next : Answer) → is_consumed (and_then a next) ≡ true → is_consumed a ≡ true
consumed_first (Ok x) next h = refl
consumed_first (Err why) next h = h

pub accepted_both : (a next : Answer) → is_accepted (and_then a next) ≡ true → (is_accepted a ≡ true) × (is_accepted next ≡ true)
accepted_both (Ok x) next h = (refl, h)
accepted_both (Err why) next h = absurd (false≢true h)

pub accepted_consumed : (a : Answer) → is_accepted a ≡ true → is_consumed a ≡ true
accepted_consumed (Ok x) h = refl
accepted_consumed (Err why) h = absurd (false≢true h)

-- ## Reading

early_or : (why : Refusal) (r : Result Arguments Refusal) → or_malformed r ≡ Err why → leb 7 (report why).stage ≡ false
early_or why (Ok x) e = let z : ◌≡◌ {A = ℕ} 0 1 = cc in absurd (omega arith)
early_or why (Err w) e = let q : Malformed ≡ why = cc in subst (λ z. leb 7 (report z).stage ≡ false) q refl

early_by : (ws wp : ℕ) (env : List ℕ) (why : Refusal) (o : Option Action) → asked_by ws wp env o ≡ Err why → leb 7 (report why).stage ≡ false
early_by ws wp env why None e = let q : UnknownAction ≡ why = cc in subst (λ z. leb 7 (report z).stage ≡ false) q refl
early_by ws wp env why (Some action) e = early_or why (arguments_in ws wp action (arguments env)) e

early_cond : (ws wp : ℕ) (env : List ℕ) (why : Refusal) (b : Bool) → cond b (asked_by ws wp env (action_of (action_code env))) (Err Malformed) ≡ Err why → leb 7 (report why).stage ≡ false
early_cond ws wp env why true e = early_by ws wp env why (action_of (action_code env)) e
early_cond ws wp env why false e = let q : Malformed ≡ why = cc in subst (λ z. leb 7 (report z).stage ≡ false) q refl

-- what cannot be read is not consumed
pub unread_early : (d : Delivery) (why : Refusal) → reading d ≡ Err why → leb 7 (report why).stage ≡ false
unfolding reading_in
unread_early d why e = early_cond d.session.width d.public.width d.envelope why (sound_header d.session.width d.public.width d.envelope) e

-- the name of a Perform is a name
abbrev Named : Arguments → Type 0
Named (take_ownership proof) = Unit {0}
Named (set_session_keys key) = Unit {0}
Named expire_session_keys = Unit {0}
Named (grant_ownership hash) = Unit {0}
Named (revoke_ownership hash) = Unit {0}
Named (add_entry entry) = Unit {0}
Named (delete_entry entry) = Unit {0}
Named (cache_certificate certificate bytes tag) = Unit {0}
Named factory_security_reset = Unit {0}
Named (perform name payload) = is_name name ≡ true

named_made : {X : Type 0} (make : X → Arguments) → ((x : X) → Named (make x)) → (r : Result X Refusal) (a : Arguments) → made_of make r ≡ Ok a → Named a
named_made make f (Ok x) a e = let q : make x ≡ a = cc in subst Named q (f x)
named_made make f (Err why) a e = let z : ◌≡◌ {A = ℕ} 0 1 = cc in absurd (omega arith)

named_sound : (b : Bool) (x a : Arguments) → (b ≡ true → Named x) → sound_or b x ≡ Ok a → Named a
named_sound true x a f e = let q : x ≡ a = cc in subst Named q (f refl)
named_sound false x a f e = let z : ◌≡◌ {A = ℕ} 0 1 = cc in absurd (omega arith)

named_if : (b : Bool) (r : Result Arguments Refusal) (a : Arguments) → ((x : Arguments) → r ≡ Ok x → Named x) → cond b r (Err Malformed) ≡ Ok a → Named a
named_if true r a f e = f a e
named_if false r a f e = let z : ◌≡◌ {A = ℕ} 0 1 = cc in absurd (omega arith)

named_performing : (name payload : List ℕ) (a : Arguments) → performing_of name payload ≡ Ok a → Named a
unfolding performing_of
named_performing name payload a e = named_sound (is_name name && leb (length payload) longest_payload) (perform name payload) a (λ h. (and_parts (is_name name) (leb (length payload) longest_payload) h).0) e

named_perform : (bytes : List ℕ) (a : Arguments) → perform_in bytes ≡ Ok a → Named a
unfolding perform_in
named_perform [] a e = let z : ◌≡◌ {A = ℕ} 0 1 = cc in absurd (omega arith)
named_perform (n ∷ rest) a e = named_if (leb n (length rest)) (performing_of (take n rest) (drop n rest)) a (λ x h. named_performing (take n rest) (drop n rest) x h) e

named_in : (ws wp : ℕ) (action : Action) (bytes : List ℕ) (a : Arguments) → arguments_in ws wp action bytes ≡ Ok a → Named a
unfolding bytes_in nothing_in caching_in caching_of
named_in ws wp TakeOwnership bytes a e = named_sound _ _ a (λ h. tt) e
named_in ws wp SetSessionKeys bytes a e = named_sound _ _ a (λ h. tt) e
named_in ws wp ExpireSessionKeys bytes a e = named_sound _ _ a (λ h. tt) e
named_in ws wp GrantOwnership bytes a e = named_made grant_ownership (λ x. tt) _ a e
named_in ws wp RevokeOwnership bytes a e = named_made revoke_ownership (λ x. tt) _ a e
named_in ws wp AddAclEntry bytes a e = named_made add_entry (λ x. tt) _ a e
named_in ws wp DeleteAclEntry bytes a e = named_made delete_entry (λ x. tt) _ a e
named_in ws wp CacheCertificate bytes a e =
    named_if (eqb (length bytes) (certificate_length + wp)) (caching_of (take certificate_length bytes) (drop certificate_length bytes)) a
    (λ x h. named_made (λ c. cache_certificate c (take certificate_length bytes) (drop certificate_length bytes)) (λ c. tt) (certificate_in (take certificate_length bytes)) x h) e
named_in ws wp FactorySecurityReset bytes a e = named_sound _ _ a (λ h. tt) e
named_in ws wp Perform bytes a e = named_perform bytes a e

named_or : (r : Result Arguments Refusal) (a : Arguments) → ((x : Arguments) → r ≡ Ok x → Named x) → or_malformed r ≡ Ok a → Named a
named_or (Ok x) a f e = f a e
named_or (Err why) a f e = let z : ◌≡◌ {A = ℕ} 0 1 = cc in absurd (omega arith)

named_by : (ws wp : ℕ) (env : List ℕ) (o : Option Action) (a : Arguments) → asked_by ws wp env o ≡ Ok a → Named a
named_by ws wp env None a e = let z : ◌≡◌ {A = ℕ} 0 1 = cc in absurd (omega arith)
named_by ws wp env (Some action) a e = named_or (arguments_in ws wp action (arguments env)) a (named_in ws wp action (arguments env)) e

named_cond : (ws wp : ℕ) (env : List ℕ) (b : Bool) (a : Arguments) → cond b (asked_by ws wp env (action_of (action_code env))) (Err Malformed) ≡ Ok a → Named a
named_cond ws wp env true a e = named_by ws wp env (action_of (action_code env)) a e
named_cond ws wp env false a e = let z : ◌≡◌ {A = ℕ} 0 1 = cc in absurd (omega arith)

pub performs_a_name : (d : Delivery) (name payload : List ℕ) → reading d ≡ Ok (perform name payload) → is_name name ≡ true
unfolding reading_in
performs_a_name d name payload e = named_cond d.session.width d.public.width d.envelope (sound_header d.session.width d.public.width d.envelope) (perform name payload) e

-- ## Kinds

pub is_kind_lem : (k : Kind) (o : Option Kind) → is_kind k o ≡ true → o ≡ Some k
is_kind_lem Unmarked' None e = absurd (false≢true e)
is_kind_lem Session' None e = absurd (false≢true e)
is_kind_lem PublicKey' None e = absurd (false≢true e)
is_kind_lem Unmarked' (Some Unmarked') e = refl
is_kind_lem Unmarked' (Some Session') e = absurd (false≢true e)
is_kind_lem Unmarked' (Some PublicKey') e = absurd (false≢true e)
is_kind_lem Session' (Some Unmarked') e = absurd (false≢true e)
is_kind_lem Session' (Some Session') e = refl
is_kind_lem Session' (Some PublicKey') e = absurd (false≢true e)
is_kind_lem PublicKey' (Some Unmarked') e = absurd (false≢true e)
is_kind_lem PublicKey' (Some Session') e = absurd (false≢true e)
is_kind_lem PublicKey' (Some PublicKey') e = refl

pub kind_is : (k : Kind) → is_kind k (Some k) ≡ true
kind_is Unmarked' = refl
kind_is Session' = refl
kind_is PublicKey' = refl

pub by_session_kind : (k : Kind) → by_session k ≡ true → k ≡ Session'
by_session_kind Unmarked' e = absurd (false≢true e)
by_session_kind Session' e = refl
by_session_kind PublicKey' e = absurd (false≢true e)

pub by_key_kind : (k : Kind) → by_session k ≡ false → ◌≡◌ {A = Option Kind} (Some k) (Some Session') → ⊥
by_key_kind Unmarked' e q = let z : ◌≡◌ {A = ℕ} 0 1 = cc in omega arith
by_key_kind Session' e q = true≢false e
by_key_kind PublicKey' e q = let z : ◌≡◌ {A = ℕ} 0 1 = cc in omega arith

-- ## Screening

pub record Screened (s : State) (d : Delivery) (kind : Kind) : Type 0 where
  pub addressed : control_number (text_of d) ≡ d.control
  pub right_kind : kind_of (text_of d) ≡ Some kind
  pub signed : is_consumed (cond (by_session kind) (screened_by_session (presented d) (first_of (signs (signed_of d)) s.sessions)) (screened_by_key s.base (presented d))) ≡ true

pub screened_facts : (s : State) (d : Delivery) (kind : Kind) → is_consumed (screened s (presented d) kind) ≡ true → Screened s d kind
unfolding screened
screened_facts s d kind h =
    let signed = cond (by_session kind) (screened_by_session (presented d) (first_of (signs (signed_of d)) s.sessions)) (screened_by_key s.base (presented d)) in
    let one = passed (eqb (control_number (text_of d)) d.control) OtherControlNumber (passing (is_kind kind (kind_of (text_of d))) WrongKind signed) refl h in
    let two = passed (is_kind kind (kind_of (text_of d))) WrongKind signed refl one.1 in
    record { addressed = eqb-true (control_number (text_of d)) d.control one.0; right_kind = is_kind_lem kind (kind_of (text_of d)) two.0; signed = two.1 }

pub record BySession (d : Delivery) (o : Option Session) : Type 0 where
  pub session : Session
  pub found : o ≡ Some session
  pub tagged : d.session.stands session.key (text_of d) (tag_of d) ≡ true
  pub above : session.last < sequence_number (text_of d)

pub session_facts : (d : Delivery) (o : Option Session) → is_consumed (screened_by_session (presented d) o) ≡ true → BySession d o
session_facts d None h = absurd (false≢true h)
session_facts d (Some x) h =
    let tagged = d.session.stands x.key (text_of d) (tag_of d) in
    let above = ltb x.last (sequence_number (text_of d)) in
    let one = passed tagged BadTag (passing above StaleNumber accepted) refl h in
    let two = passed above StaleNumber accepted refl one.1 in
    record { session = x; found = refl; tagged = one.0; above = ltb-true x.last (sequence_number (text_of d)) two.0 }

pub key_facts : (base : ℕ) (d : Delivery) → is_consumed (screened_by_key base (presented d)) ≡ true → key_number (text_of d) ≡ base
key_facts base d h =
    let rest = passing (ltb base largest) BaseExhausted accepted in
    let one = passed (d.public.stands (signer (text_of d)) (text_of d) (tag_of d)) BadTag (passing (eqb (key_number (text_of d)) base) OtherBase rest) refl h in
    eqb-true (key_number (text_of d)) base (passed (eqb (key_number (text_of d)) base) OtherBase rest refl one.1).0
