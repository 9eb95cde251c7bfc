use Rattle.std.proofs.Common.{[], get_or, rules}
use Rattle.keyhash.specs.Numeral.{Rewritten}
use Rattle.keyhash.proofs.Made.{made_each}
use Rattle.keyhash.proofs.Groups.{rewritten_chunks}
use Rattle.keyhash.proofs.base64.cut.Goals as goal

pub returns : goal.returns
returns c =
    let each = made_each (λ k group. Rewritten 256 64 (get_or c.as_chunks.result.0.now k []) group) [] c.from_fn-fours.ensures.items (λ i y f' called. search rules) in
    rewritten_chunks 256 64 3 8 c.args.bytes.now c.copy_from_slice.new.self c.as_chunks.result.0.now c.from_fn-fours.result (search rules) (search rules) (search rules) (search rules) each
