use Rattle.std.proofs.Common.{◌≡◌, take}
use Rattle.std.specs.Option.{option_copied}
use Rattle.delegation.specs.Marks.{looked, marked}
use Rattle.delegation.proofs.types.Question.mark_links.Given as goal

-- the certificates so far have been looked at
abbrev pub invariant-loop-i : goal.invariant-loop-i
invariant-loop-i l = l.marks ≡ marked (looked l.self (option_copied l.next)) (take l.i l.self.tables.certificates) l.initial.marks
