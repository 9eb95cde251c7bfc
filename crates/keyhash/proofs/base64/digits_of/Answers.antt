use Rattle.std.proofs.Common.{rules}
use Rattle.keyhash.specs.Base64.{digit_of}
use Rattle.keyhash.proofs.Made.{map_made}
use Rattle.keyhash.proofs.base64.digits_of.Goals as goal

pub returns : goal.returns
returns c = map_made digit_of c.args.chars c.from_fn.ensures.items (search rules) (λ i y f' called. search rules)
