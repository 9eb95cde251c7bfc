use Rattle.machine.proofs.authorisation.Goals as goal
use Rattle.machine.proofs.Delegating.{the_test_decides_authorisation}

pub returns : goal.returns
returns c = record { the_test_decides_authorisation = the_test_decides_authorisation }
