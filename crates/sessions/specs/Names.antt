-- Names of sessions are compared by their two parts.
use Rattle.std.specs.Prelude.{◌≡◌, Decides}
use Rattle.std.proofs.Common.{arith}
use Rattle.std.proofs.lemmas.Grind.{common_steps}
use Rattle.std.proofs.lemmas.Bool.Decides.{nat_tests, Decides-eqb}
use Rattle.std.proofs.lemmas.Slice.Eq.{bytes_eq-Decides}
use Rattle.sessions.specs.declared.types.SessionName.{SessionName}
use Rattle.sessions.specs.Opened.{same_name}

pub same_name-Decides : (a b : SessionName) → Decides (same_name a b) (a ≡ b)
same_name-Decides a b =
    let ids = Decides-eqb a.id b.id in
    let signers = bytes_eq-Decides a.signer b.signer in
    (λ e. grind (arith, nat_tests, common_steps), λ e. grind (arith, nat_tests, common_steps))
