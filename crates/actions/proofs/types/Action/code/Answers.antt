use Rattle.actions.proofs.Actions.{one_code_for_each}
use Rattle.actions.proofs.types.Action.code.Goals as goal

pub returns-clause-one_code_for_each : goal.returns-clause-one_code_for_each
returns-clause-one_code_for_each c = one_code_for_each
