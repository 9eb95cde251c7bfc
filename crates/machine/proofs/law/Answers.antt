use Rattle.machine.proofs.law.Goals as goal
use Rattle.machine.proofs.Lawfulness.{the_law_holds_at_every_moment}

pub returns : goal.returns
returns c = record { law_holds_at_every_moment = the_law_holds_at_every_moment }
