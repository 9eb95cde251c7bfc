-- A delivery, and the request that its envelope holds.
use Rattle.std.specs.Prelude.{ℕ, Bool, cond, List, Some, None, Ok, Err, Option, Result}
use Rattle.refusal.specs.declared.Refusal.{Refusal}
use Rattle.refusal.specs.declared.Refusal.TheVariants.{Malformed, UnknownAction}
use Rattle.wire.specs.declared.types.Kind.{Kind}
use Rattle.wire.specs.Envelope.{sound_header, action_code, control_number, key_number, sequence_number, signer, kind_of, arguments, signed_text, tag}
use Rattle.actions.specs.declared.types.Action.{Action}
use Rattle.actions.specs.declared.types.Action.TheVariants.{TakeOwnership, SetSessionKeys, ExpireSessionKeys, GrantOwnership, RevokeOwnership, AddAclEntry, DeleteAclEntry, CacheCertificate, FactorySecurityReset, Perform}
use Rattle.actions.specs.Codes.{action_of, kind_for}
use Rattle.actions.specs.Arguments.{Arguments, Arguments.take_ownership, Arguments.set_session_keys, Arguments.expire_session_keys, Arguments.grant_ownership, Arguments.revoke_ownership, Arguments.add_entry, Arguments.delete_entry, Arguments.cache_certificate, Arguments.factory_security_reset, Arguments.perform, arguments_in}

-- what a verifier means: how long its tags are, and whether a tag stands for a key and a text
pub record Meaning : Type 0 where
  pub width : ℕ
  pub stands : List ℕ → List ℕ → List ℕ → Bool

-- What is brought to the guard: an envelope, the control number of the URL that it came to, a reading of the clock, and
-- the two verifiers of this delivery.
pub record Delivery : Type 0 where
  pub envelope : List ℕ
  pub control : ℕ
  pub clock : ℕ
  pub session : Meaning
  pub public : Meaning

-- the signed text and the tag over it; who signs, under which key number and with which number, is read off the signed text
abbrev pub text_of : Delivery → List ℕ
text_of d = signed_text d.envelope

abbrev pub tag_of : Delivery → List ℕ
tag_of d = tag d.envelope

-- what is read off the signed text, with the text and the tag over it
pub record Signed : Type 0 where
  pub kind : Option Kind
  pub control : ℕ
  pub key_number : ℕ
  pub number : ℕ
  pub signer : List ℕ
  pub text : List ℕ
  pub tag : List ℕ

abbrev pub signed_from : List ℕ → Signed
signed_from envelope = record {
  kind = kind_of (signed_text envelope);
  control = control_number (signed_text envelope);
  key_number = key_number (signed_text envelope);
  number = sequence_number (signed_text envelope);
  signer = signer (signed_text envelope);
  text = signed_text envelope;
  tag = tag envelope;
}

abbrev pub signed_of : Delivery → Signed
signed_of d = signed_from d.envelope

-- a delivery with its envelope opened
pub record Presented : Type 0 where
  pub signed : Signed
  pub control : ℕ
  pub clock : ℕ
  pub session : Meaning
  pub public : Meaning

abbrev pub presented : Delivery → Presented
presented d = record { signed = signed_of d; control = d.control; clock = d.clock; session = d.session; public = d.public }

-- the time by which a request is judged: the delivery's reading of the clock
abbrev pub time_of : Presented → ℕ
time_of p = p.clock

-- the arguments, or that they are malformed
abbrev pub or_malformed : Result Arguments Refusal → Result Arguments Refusal
or_malformed (Err why) = Err Malformed
or_malformed (Ok asked) = Ok asked

abbrev pub asked_by : ℕ → ℕ → List ℕ → Option Action → Result Arguments Refusal
asked_by session public envelope None = Err UnknownAction
asked_by session public envelope (Some action) = or_malformed (arguments_in session public action (arguments envelope))

-- what an envelope asks, for verifiers with tags of these lengths: a malformed header comes first, then an action that there is
-- not, then malformed arguments
unfoldable pub reading_in : ℕ → ℕ → List ℕ → Result Arguments Refusal
reading_in session public envelope = cond (sound_header session public envelope) (asked_by session public envelope (action_of (action_code envelope))) (Err Malformed)

abbrev pub reading : Delivery → Result Arguments Refusal
reading d = reading_in d.session.width d.public.width d.envelope

-- the action that has these arguments
abbrev pub action_asked : Arguments → Action
action_asked (take_ownership proof) = TakeOwnership
action_asked (set_session_keys key) = SetSessionKeys
action_asked expire_session_keys = ExpireSessionKeys
action_asked (grant_ownership hash) = GrantOwnership
action_asked (revoke_ownership hash) = RevokeOwnership
action_asked (add_entry entry) = AddAclEntry
action_asked (delete_entry entry) = DeleteAclEntry
action_asked (cache_certificate certificate bytes tag) = CacheCertificate
action_asked factory_security_reset = FactorySecurityReset
action_asked (perform name payload) = Perform

-- the kind that the action asks for
abbrev pub kind_asked : Arguments → Kind
kind_asked asked = kind_for (action_asked asked)
