-- The code of each action, and the kind of envelope that it comes in.
use Rattle.std.specs.Prelude.{◌≡◌, ℕ, cond, Some, None, Option, ◌==◌}
use Rattle.wire.specs.declared.types.Kind.{Kind}
use Rattle.wire.specs.declared.types.Kind.TheVariants.{Session, PublicKey}
use Rattle.actions.specs.declared.types.Action.{Action}
use Rattle.actions.specs.declared.types.Action.TheVariants.{TakeOwnership, SetSessionKeys, ExpireSessionKeys, GrantOwnership, RevokeOwnership, AddAclEntry, DeleteAclEntry, CacheCertificate, FactorySecurityReset, Perform}

abbrev pub code_of : Action → ℕ
code_of TakeOwnership = 0x01
code_of SetSessionKeys = 0x02
code_of ExpireSessionKeys = 0x03
code_of GrantOwnership = 0x04
code_of RevokeOwnership = 0x05
code_of AddAclEntry = 0x06
code_of DeleteAclEntry = 0x07
code_of CacheCertificate = 0x08
code_of FactorySecurityReset = 0x09
code_of Perform = 0x0A

unfoldable pub action_of : ℕ → Option Action
action_of code = cond (code == 0x01) (Some TakeOwnership) (cond (code == 0x02) (Some SetSessionKeys) (cond (code == 0x03) (Some ExpireSessionKeys) (cond (code == 0x04) (Some GrantOwnership) (cond (code == 0x05) (Some RevokeOwnership) (cond (code == 0x06) (Some AddAclEntry) (cond (code == 0x07) (Some DeleteAclEntry) (cond (code == 0x08) (Some CacheCertificate) (cond (code == 0x09) (Some FactorySecurityReset) (cond (code == 0x0A) (Some Perform) None)))))))))

-- the first two come under a public key, since there is no session yet
abbrev pub kind_for : Action → Kind
kind_for TakeOwnership = PublicKey
kind_for SetSessionKeys = PublicKey
kind_for ExpireSessionKeys = Session
kind_for GrantOwnership = Session
kind_for RevokeOwnership = Session
kind_for AddAclEntry = Session
kind_for DeleteAclEntry = Session
kind_for CacheCertificate = Session
kind_for FactorySecurityReset = Session
kind_for Perform = Session

-- every action has a code, and no two have the same
pub record OneCodeForEach : Type 0 where
  pub code_is_read_back : (action : Action) → action_of (code_of action) ≡ Some action
  pub no_other_code : (action : Action) (code : ℕ) → action_of code ≡ Some action → code ≡ code_of action
