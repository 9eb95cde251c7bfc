use Rattle.std.proofs.Common.{IfSome}
use Rattle.std.specs.Option.{option_copied}
use Rattle.delegation.specs.Marks.{LeadsTo}
use Rattle.delegation.proofs.types.Question.walk_back.Given as goal

abbrev pub invariant-loop-link : goal.invariant-loop-link
invariant-loop-link l = IfSome (option_copied l.first) (LeadsTo l.self)
