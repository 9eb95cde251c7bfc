use Rattle.std.proofs.Common.{◌<◌, rules}
use Rattle.std.proofs.lemmas.List.Elements.{All-from_recursion}
use Rattle.keyhash.proofs.Groups.{cut_digits}
use Rattle.keyhash.proofs.base64.Digits.of_hash.Goals as goal

pub invariant_of-result : goal.invariant_of-result
invariant_of-result c = record { of_six_bits = All-from_recursion (λ d. d < 64) c.cut-places.result c.cut-places.ensures.below }

pub returns : goal.returns
returns c = cut_digits c.args.hash c.padded.result c.cut-places.result c.cut-places.ensures (search rules) (search rules)
