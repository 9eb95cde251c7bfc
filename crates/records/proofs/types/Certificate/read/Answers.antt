use Rattle.std.proofs.Common.{rules}
use Rattle.records.specs.Records.{certificate_in}
use Rattle.records.specs.RecordLaws.{certificates_inverse}
use Rattle.records.proofs.types.Certificate.read.Goals as goal

pub returns-then-bytes-ne-LENGTH : goal.returns-then-bytes-ne-LENGTH
unfolding certificate_in
returns-then-bytes-ne-LENGTH c = record { as_defined = search rules; reading_and_writing_are_inverse = certificates_inverse }

pub returns-in_err-read : goal.returns-in_err-read
unfolding certificate_in
returns-in_err-read c = record { as_defined = search rules; reading_and_writing_are_inverse = certificates_inverse }

pub returns : goal.returns
unfolding certificate_in
returns c = record { as_defined = search rules; reading_and_writing_are_inverse = certificates_inverse }
