use Rattle.std.proofs.Common.{arith}
use Rattle.std.proofs.lemmas.List.{places}
use Rattle.tables.proofs.Places.{closed}
use Rattle.tables.proofs.rows.remove.Goals as goal

pub returns-clause-closed : goal.returns-clause-closed
returns-clause-closed g c = λ fits. (omega arith, grind (arith, places, closed))
