use Rattle.machine.proofs.commands_need_authorisation.Goals as goal
use Rattle.machine.proofs.Lawfulness.{no_command_is_done_for_who_is_not_authorised}

pub returns : goal.returns
returns c = record { no_command_is_done_for_who_is_not_authorised = no_command_is_done_for_who_is_not_authorised }
