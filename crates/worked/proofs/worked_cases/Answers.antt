use Rattle.worked.proofs.Worked.{worked_cases}
use Rattle.worked.proofs.worked_cases.Goals as goal

pub returns : goal.returns
returns c = record { every_worked_case_holds = worked_cases; eighteen_are_listed = c.listed.ensures }
