use Rattle.std.proofs.Common.{◌∙◌}
use Rattle.delegation.proofs.Chains.{found_exactly}
use Rattle.delegation.proofs.types.Question.by_chain.Goals as goal

pub returns-else-is_walked : goal.returns-else-is_walked
returns-else-is_walked c = c.begins.ensures ∙ found_exactly c.args.self.now c.leading.result c.leading.ensures.tells c.leading.ensures.enough
