use Rattle.std.proofs.Common.{refl}
use Rattle.guard.proofs.types.Guard.new.Goals as goal
use Rattle.guard.proofs.Calls.{begins}

pub returns : goal.returns
returns c = record {
  a_history_begins = λ done last. begins c.args.device c.args.password c.args.base done last _ refl refl refl c.new.ensures.empty c.new-2.ensures.empty c.new-3.ensures.empty c.new-4.ensures.empty refl refl;
}
