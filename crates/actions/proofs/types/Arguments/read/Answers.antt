use Rattle.actions.proofs.Forms.{read_exactly}
use Rattle.actions.proofs.types.Arguments.read.Goals as goal

pub returns-clause-arguments_are_read_exactly : goal.returns-clause-arguments_are_read_exactly
returns-clause-arguments_are_read_exactly g c = read_exactly g.S.Verifier.width g.P.Verifier.width
