use Rattle.std.proofs.Common.{◌≡◌, rules}
use Rattle.std.proofs.lemmas.Bool.Decides.{Decides-at}
use Rattle.machine.specs.Delegation.{authorised}
use Rattle.machine.proofs.Delegating.{the_test_decides_authorisation}
use Rattle.delegation.specs.Given.{tables_of}
use Rattle.delegation.proofs.is_authorised.Goals as goal

pub returns-clause-is_the_relation : goal.returns-clause-is_the_relation
returns-clause-is_the_relation c named =
    let tables = tables_of c.args.owners.now c.args.entries.now c.args.certificates.now in
    let test = authorised tables c.args.clock c.args.name.now c.args.signer.now in
    let same : c.is_authorised.result ≡ test = search rules in
    Decides-at c.is_authorised.result test same (the_test_decides_authorisation tables c.args.clock c.args.name.now named c.args.signer.now)
