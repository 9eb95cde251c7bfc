use Rattle.std.proofs.Common.{rules}
use Rattle.records.specs.Records.{entry_in}
use Rattle.records.specs.RecordLaws.{entries_inverse}
use Rattle.records.proofs.types.Entry.read.Goals as goal

pub returns-then-bytes-ne-LENGTH : goal.returns-then-bytes-ne-LENGTH
unfolding entry_in
returns-then-bytes-ne-LENGTH c = record { as_defined = search rules; reading_and_writing_are_inverse = entries_inverse }

pub returns-in_err-read : goal.returns-in_err-read
unfolding entry_in
returns-in_err-read c = record { as_defined = search rules; reading_and_writing_are_inverse = entries_inverse }

pub returns : goal.returns
unfolding entry_in
returns c = record { as_defined = search rules; reading_and_writing_are_inverse = entries_inverse }
