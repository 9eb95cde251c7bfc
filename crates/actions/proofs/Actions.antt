-- Every action has one code.
use Rattle.std.proofs.Common.{◌≡◌, ℕ, Bool, true, false, cond, eqb, Some, None, Option, refl, ap, ◌∙◌, arith}
use Rattle.std.proofs.lemmas.Bool.{eqb-true}
use Rattle.actions.specs.declared.types.Action.{Action}
use Rattle.actions.specs.declared.types.Action.TheVariants.{TakeOwnership, SetSessionKeys, ExpireSessionKeys, GrantOwnership, RevokeOwnership, AddAclEntry, DeleteAclEntry, CacheCertificate, FactorySecurityReset, Perform}
use Rattle.actions.specs.Codes.{action_of, code_of, OneCodeForEach}

read_back : (action : Action) → action_of (code_of action) ≡ Some action
unfolding action_of
read_back TakeOwnership = refl
read_back SetSessionKeys = refl
read_back ExpireSessionKeys = refl
read_back GrantOwnership = refl
read_back RevokeOwnership = refl
read_back AddAclEntry = refl
read_back DeleteAclEntry = refl
read_back CacheCertificate = refl
read_back FactorySecurityReset = refl
read_back Perform = refl

-- one code of the chain: it is the action's, or the rest has it
first_or_later : (code number : ℕ) (one : Action) (others : Option Action) (action : Action) (b : Bool) → eqb code number ≡ b → number ≡ code_of one → (others ≡ Some action → code ≡ code_of action) → cond b (Some one) others ≡ Some action → code ≡ code_of action
first_or_later code number one others action true equal is rest found = let same : one ≡ action = cc in eqb-true code number equal ∙ is ∙ ap code_of same
first_or_later code number one others action false equal is rest found = rest found

one_of : (code number : ℕ) (one : Action) {others : Option Action} {action : Action} → number ≡ code_of one → (others ≡ Some action → code ≡ code_of action) → cond (eqb code number) (Some one) others ≡ Some action → code ≡ code_of action
one_of code number one {others} {action} is rest found = first_or_later code number one others action (eqb code number) refl is rest found

no_action : {P : Type 0} (action : Action) → ◌≡◌ {A = Option Action} None (Some action) → P
no_action action found = let z : ◌≡◌ {A = ℕ} 0 1 = cc in absurd (omega arith)

no_other : (action : Action) (code : ℕ) → action_of code ≡ Some action → code ≡ code_of action
unfolding action_of
no_other action code =
    one_of code 1 TakeOwnership refl
    (one_of code 2 SetSessionKeys refl
    (one_of code 3 ExpireSessionKeys refl
    (one_of code 4 GrantOwnership refl
    (one_of code 5 RevokeOwnership refl
    (one_of code 6 AddAclEntry refl
    (one_of code 7 DeleteAclEntry refl
    (one_of code 8 CacheCertificate refl
    (one_of code 9 FactorySecurityReset refl
    (one_of code 10 Perform refl
    (no_action action))))))))))

pub one_code_for_each : OneCodeForEach
one_code_for_each = record { code_is_read_back = read_back; no_other_code = no_other }
