-- The arguments of each action, and the bytes that hold them. Their lengths do not depend on the envelope's kind.
use Rattle.std.specs.Prelude.{ℕ, ◌+◌, Bool, cond, ◌&&◌, List, [], ◌∷◌, length, take, drop, Ok, Err, Result, ◌==◌, nat_le}
use Rattle.refusal.specs.declared.Refusal.{Refusal}
use Rattle.refusal.specs.declared.Refusal.TheVariants.{Malformed}
use Rattle.keyhash.specs.Element.{reading_element}
use Rattle.permission.specs.Reading.{is_name}
use Rattle.records.specs.declared.types.Entry.{Entry}
use Rattle.records.specs.declared.types.Certificate.{Certificate}
use Rattle.records.specs.Records.{entry_in, certificate_in}
use Rattle.actions.specs.declared.types.Action.{Action}
use Rattle.actions.specs.declared.types.Action.TheVariants.{TakeOwnership, SetSessionKeys, ExpireSessionKeys, GrantOwnership, RevokeOwnership, AddAclEntry, DeleteAclEntry, CacheCertificate, FactorySecurityReset, Perform}

pub data Arguments : Type 0 where
  -- the proof: a tag of the session verifier under the password
  take_ownership : List ℕ → Arguments
  -- the session's key
  set_session_keys : List ℕ → Arguments
  expire_session_keys : Arguments
  -- the hash of the key that becomes, or no longer is, an owner
  grant_ownership : List ℕ → Arguments
  revoke_ownership : List ℕ → Arguments
  add_entry : Entry → Arguments
  delete_entry : Entry → Arguments
  -- the certificate, its bytes, and the issuer's tag over them
  cache_certificate : Certificate → List ℕ → List ℕ → Arguments
  factory_security_reset : Arguments
  -- the command's name and payload
  perform : List ℕ → List ℕ → Arguments

abbrev pub key_length : ℕ
key_length = 20

abbrev pub certificate_length : ℕ
certificate_length = 126

abbrev pub longest_payload : ℕ
longest_payload = 512

abbrev pub or_malformed : Bool → Arguments → Result Arguments Refusal
or_malformed sound arguments = cond sound (Ok arguments) (Err Malformed)

-- the arguments made of what was read
abbrev pub made_of : {X : Type 0} → (X → Arguments) → Result X Refusal → Result Arguments Refusal
made_of make (Ok x) = Ok (make x)
made_of make (Err why) = Err why

-- bytes of one length, and no bytes at all
unfoldable pub bytes_in : ℕ → (List ℕ → Arguments) → List ℕ → Result Arguments Refusal
bytes_in size make bytes = or_malformed (length bytes == size) (make bytes)

unfoldable pub nothing_in : Arguments → List ℕ → Result Arguments Refusal
nothing_in arguments bytes = or_malformed (length bytes == 0) arguments

-- a certificate, and a tag as long as the public verifier's
unfoldable pub caching_of : List ℕ → List ℕ → Result Arguments Refusal
caching_of bytes tag = made_of (λ c. cache_certificate c bytes tag) (certificate_in bytes)

unfoldable pub caching_in : ℕ → List ℕ → Result Arguments Refusal
caching_in public bytes = cond (length bytes == certificate_length + public) (caching_of (take certificate_length bytes) (drop certificate_length bytes)) (Err Malformed)

-- the length of a name, the name, and the payload
unfoldable pub performing_of : List ℕ → List ℕ → Result Arguments Refusal
performing_of name payload = or_malformed (is_name name && nat_le (length payload) longest_payload) (perform name payload)

unfoldable pub perform_in : List ℕ → Result Arguments Refusal
perform_in [] = Err Malformed
perform_in (n ∷ rest) = cond (nat_le n (length rest)) (performing_of (take n rest) (drop n rest)) (Err Malformed)

-- the arguments that some bytes hold for an action, with the tag lengths of the session verifier and of the public verifier
abbrev pub arguments_in : ℕ → ℕ → Action → List ℕ → Result Arguments Refusal
arguments_in session public TakeOwnership bytes = bytes_in session take_ownership bytes
arguments_in session public SetSessionKeys bytes = bytes_in key_length set_session_keys bytes
arguments_in session public ExpireSessionKeys bytes = nothing_in expire_session_keys bytes
arguments_in session public GrantOwnership bytes = made_of grant_ownership (reading_element bytes)
arguments_in session public RevokeOwnership bytes = made_of revoke_ownership (reading_element bytes)
arguments_in session public AddAclEntry bytes = made_of add_entry (entry_in bytes)
arguments_in session public DeleteAclEntry bytes = made_of delete_entry (entry_in bytes)
arguments_in session public CacheCertificate bytes = caching_in public bytes
arguments_in session public FactorySecurityReset bytes = nothing_in factory_security_reset bytes
arguments_in session public Perform bytes = perform_in bytes
