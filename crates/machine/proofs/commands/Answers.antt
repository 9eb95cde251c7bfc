use Rattle.machine.proofs.commands.Goals as goal
use Rattle.machine.proofs.Giving.{the_service_does_what_it_is_given_and_takes}

pub returns : goal.returns
returns c = record { the_service_does_what_it_is_given_and_takes = the_service_does_what_it_is_given_and_takes }
