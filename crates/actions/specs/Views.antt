-- What the arguments that were read say, by value.
use Rattle.std.specs.Result.{result_map_both}
use Rattle.std.specs.Prelude.{Result}
use Rattle.refusal.specs.declared.Refusal.{Refusal}
use Rattle.actions.specs.declared.types.Arguments as code
use Rattle.actions.specs.declared.types.Arguments.TheVariants.{TakeOwnership, SetSessionKeys, ExpireSessionKeys, GrantOwnership, RevokeOwnership, AddAclEntry, DeleteAclEntry, CacheCertificate, FactorySecurityReset, Perform}
use Rattle.actions.specs.Arguments.{Arguments, Arguments.take_ownership, Arguments.set_session_keys, Arguments.expire_session_keys, Arguments.grant_ownership, Arguments.revoke_ownership, Arguments.add_entry, Arguments.delete_entry, Arguments.cache_certificate, Arguments.factory_security_reset, Arguments.perform}

abbrev pub saying : code.Arguments → Arguments
saying (TakeOwnership proof) = take_ownership proof.now
saying (SetSessionKeys key) = set_session_keys key
saying ExpireSessionKeys = expire_session_keys
saying (GrantOwnership hash) = grant_ownership hash
saying (RevokeOwnership hash) = revoke_ownership hash
saying (AddAclEntry entry) = add_entry entry
saying (DeleteAclEntry entry) = delete_entry entry
saying (CacheCertificate certificate bytes tag) = cache_certificate certificate bytes.now tag.now
saying FactorySecurityReset = factory_security_reset
saying (Perform name payload) = perform name.now payload.now

abbrev pub answered : Result code.Arguments Refusal → Result Arguments Refusal
answered = result_map_both saying (λ why. why)
