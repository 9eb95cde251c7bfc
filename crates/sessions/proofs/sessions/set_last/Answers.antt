use Rattle.std.proofs.Common.{arith}
use Rattle.std.proofs.lemmas.Grind.{common_steps}
use Rattle.sessions.proofs.Numbers.{only_last_changes}
use Rattle.sessions.proofs.sessions.set_last.Goals as goal

pub returns-in_default-clause-nothing_else : goal.returns-in_default-clause-nothing_else
returns-in_default-clause-nothing_else c = only_last_changes _ _ _ _ (grind (arith, common_steps))

pub returns-clause-nothing_else : goal.returns-clause-nothing_else
returns-clause-nothing_else c = only_last_changes _ _ _ _ (grind (arith, common_steps))
