use Rattle.std.proofs.Common.{arith, rules}
use Rattle.std.proofs.lemmas.Bool.Decides.{nat_tests}
use Rattle.std.proofs.lemmas.Grind.{common_steps}
use Rattle.parties.specs.Waiting.{is_sendable}
use Rattle.parties.proofs.stored_command.StoredCommand.new.Goals as goal

pub returns-then-is_empty : goal.returns-then-is_empty
unfolding is_sendable
returns-then-is_empty c = record { stores_what_fits = grind (arith, common_steps, nat_tests) }

pub returns-in_err-copied : goal.returns-in_err-copied
unfolding is_sendable
returns-in_err-copied c = record { stores_what_fits = rw c.from_residual.ensures (grind (arith, common_steps, nat_tests)) }

pub returns-in_err-copied-2 : goal.returns-in_err-copied-2
unfolding is_sendable
returns-in_err-copied-2 c = record { stores_what_fits = rw c.from_residual-in_err-copied-2.ensures (grind (arith, common_steps, nat_tests)) }

pub returns : goal.returns
unfolding is_sendable
returns c = record { stores_what_fits = (grind (arith, common_steps, nat_tests), search rules) }
