use Rattle.machine.proofs.example.Goals as goal
use Rattle.machine.proofs.Showing.{an_example_shows_what_is_due}

pub returns : goal.returns
returns c = record { an_example_shows_what_is_due = an_example_shows_what_is_due }
