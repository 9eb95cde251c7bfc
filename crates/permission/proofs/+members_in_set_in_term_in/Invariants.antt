use Rattle.std.proofs.Common.{◌≡◌, ◌+◌, ◌*◌, ◌≤◌}
use Rattle.permission.specs.Reading.{any_judged, members_in, term_in}
use Rattle.permission.proofs.Walks.{members_left}
use Rattle.permission.proofs.+members_in_set_in_term_in.Given as goal

-- each set costs one level of nesting
abbrev pub decreases-term_in : goal.decreases-term_in
decreases-term_in l = 3 * l.deep + 1

abbrev pub decreases-set_in : goal.decreases-set_in
decreases-set_in l = 3 * l.deep

abbrev pub decreases-members_in : goal.decreases-members_in
decreases-members_in l = 3 * l.deep + 2

-- what has been found, or else what is left, decides
abbrev pub invariant-members_in-loop-left : goal.invariant-members_in-loop-left
invariant-members_in-loop-left l = (l.deep ≤ l.initial.deep) × (members_left (term_in l.deep) l.name l.any l.left l.rest ≡ any_judged l.name (members_in (term_in l.initial.deep) l.n l.bytes))

-- one member less is left, or one level of nesting
abbrev pub decreases-members_in-loop-left : goal.decreases-members_in-loop-left
decreases-members_in-loop-left l = 256 * l.deep + l.left
