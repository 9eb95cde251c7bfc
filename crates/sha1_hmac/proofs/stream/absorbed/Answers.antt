use Rattle.std.proofs.Common.{[]}
use Rattle.sha1_hmac.proofs.stream.absorbed.Goals as goal

pub returns : goal.returns
returns c = c.update.ensures.absorbs [] c.new-state.ensures.absorbed_nothing
