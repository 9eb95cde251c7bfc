use Rattle.std.proofs.Common.{rules}
use Rattle.wire.specs.Envelope.{signer}
use Rattle.wire.proofs.header.Header.unused_fields_zero.Goals as goal

pub returns-in-Unmarked : goal.returns-in-Unmarked
unfolding signer
returns-in-Unmarked c = let e = c.eq.ensures in search rules
