-- Which arguments an action takes, the bytes that hold them, and that these are read exactly.
use Rattle.std.specs.Prelude.{◌≡◌, ℕ, ◌≤◌, List, [], ◌∷◌, ◌++◌, length, Ok, Err}
use Rattle.refusal.specs.declared.Refusal.{Refusal}
use Rattle.refusal.specs.declared.Refusal.TheVariants.{Malformed}
use Rattle.std.specs.Int.Digits.{AllBelowBase}
use Rattle.keyhash.specs.Canonical.{KeyHash}
use Rattle.keyhash.specs.Element.{element}
use Rattle.permission.specs.Names.{IsName}
use Rattle.records.specs.Inverse.{EntryFits, CertificateFits, WellFormedScope}
use Rattle.records.specs.Records.{entry_bytes, certificate_bytes}
use Rattle.actions.specs.declared.types.Action.{Action}
use Rattle.actions.specs.declared.types.Action.TheVariants.{TakeOwnership, SetSessionKeys, ExpireSessionKeys, GrantOwnership, RevokeOwnership, AddAclEntry, DeleteAclEntry, CacheCertificate, FactorySecurityReset, Perform}
use Rattle.actions.specs.Arguments.{Arguments, Arguments.take_ownership, Arguments.set_session_keys, Arguments.expire_session_keys, Arguments.grant_ownership, Arguments.revoke_ownership, Arguments.add_entry, Arguments.delete_entry, Arguments.cache_certificate, Arguments.factory_security_reset, Arguments.perform, arguments_in}

-- the action that takes them
abbrev pub taken_by : Arguments → Action
taken_by (take_ownership proof) = TakeOwnership
taken_by (set_session_keys key) = SetSessionKeys
taken_by expire_session_keys = ExpireSessionKeys
taken_by (grant_ownership hash) = GrantOwnership
taken_by (revoke_ownership hash) = RevokeOwnership
taken_by (add_entry entry) = AddAclEntry
taken_by (delete_entry entry) = DeleteAclEntry
taken_by (cache_certificate certificate bytes tag) = CacheCertificate
taken_by factory_security_reset = FactorySecurityReset
taken_by (perform name payload) = Perform

abbrev pub bytes_of : Arguments → List ℕ
bytes_of (take_ownership proof) = proof
bytes_of (set_session_keys key) = key
bytes_of expire_session_keys = []
bytes_of (grant_ownership hash) = element hash
bytes_of (revoke_ownership hash) = element hash
bytes_of (add_entry entry) = entry_bytes entry
bytes_of (delete_entry entry) = entry_bytes entry
bytes_of (cache_certificate certificate bytes tag) = bytes ++ tag
bytes_of factory_security_reset = []
bytes_of (perform name payload) = length name ∷ (name ++ payload)

-- what is asked of them, with the tag lengths of the session verifier and of the public verifier
abbrev pub WellFormed : ℕ → ℕ → Arguments → Type 0
WellFormed session public (take_ownership proof) = length proof ≡ session
WellFormed session public (set_session_keys key) = length key ≡ 20
WellFormed session public expire_session_keys = Unit {0}
WellFormed session public (grant_ownership hash) = KeyHash hash
WellFormed session public (revoke_ownership hash) = KeyHash hash
WellFormed session public (add_entry entry) = EntryFits entry × WellFormedScope entry.scope
WellFormed session public (delete_entry entry) = EntryFits entry × WellFormedScope entry.scope
WellFormed session public (cache_certificate certificate bytes tag) = CertificateFits certificate × WellFormedScope certificate.scope × (certificate_bytes certificate ≡ bytes) × (length tag ≡ public)
WellFormed session public factory_security_reset = Unit {0}
WellFormed session public (perform name payload) = IsName name × (length payload ≤ 512)

pub record ReadExactly (session public : ℕ) : Type 0 where
  pub what_is_written_reads_back : (a : Arguments) → WellFormed session public a → arguments_in session public (taken_by a) (bytes_of a) ≡ Ok a
  pub what_reads_is_well_formed : (action : Action) (bytes : List ℕ) (a : Arguments) → AllBelowBase 256 bytes → arguments_in session public action bytes ≡ Ok a → (taken_by a ≡ action) × WellFormed session public a × (bytes_of a ≡ bytes)
  pub all_else_is_malformed : (action : Action) (bytes : List ℕ) (why : Refusal) → arguments_in session public action bytes ≡ Err why → why ≡ Malformed
