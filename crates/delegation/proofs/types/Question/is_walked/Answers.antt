use Rattle.std.proofs.Common.{sym, ◌∙◌}
use Rattle.delegation.proofs.Chains.{leads_is_chain}
use Rattle.delegation.proofs.types.Question.is_walked.Goals as goal

pub returns-in-Some : goal.returns-in-Some
returns-in-Some c e = leads_is_chain c.args.self.now c.in-Some.first.now c.in-Some.ensures (sym c.may_begin.ensures ∙ e)
