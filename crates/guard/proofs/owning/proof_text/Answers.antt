use Rattle.std.proofs.Common.{refl, ◌∙◌}
use Rattle.records.specs.Numbers.{eight_bytes_are_big_endian}
use Rattle.guard.proofs.owning.proof_text.Goals as goal

pub returns : goal.returns
returns c =
    let number = c.copy_from_slice.ensures.after ∙ c.to_be_bytes.ensures ∙ eight_bytes_are_big_endian c.args.key_number in
    rw (number, c.copy_from_slice-2.ensures.after) refl
