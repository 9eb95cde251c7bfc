use Rattle.std.proofs.Common.{rules}
use Rattle.records.specs.Records.{big_endian}
use Rattle.wire.specs.Writing.{front_bytes}
use Rattle.wire.proofs.request.Request.front.Goals as goal

pub returns : goal.returns
unfolding front_bytes big_endian
returns c = record { bytes = search rules; action_fits = search rules; control_fits = search rules }
