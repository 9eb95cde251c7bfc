use Rattle.delegation.proofs.Following.{Sought, unfollowed}
use Rattle.delegation.proofs.types.Question.leading.Given as goal

abbrev pub invariant-loop-i : goal.invariant-loop-i
invariant-loop-i l = Sought l.self l.marks

-- how many certificates are yet to be followed, at most
abbrev pub decreases-loop-i : goal.decreases-loop-i
decreases-loop-i l = unfollowed l.marks
