use Rattle.std.proofs.Common.{rules}
use Rattle.keyhash.specs.Base64.{character}
use Rattle.keyhash.proofs.Made.{map_made}
use Rattle.keyhash.proofs.base64.Digits.characters.Goals as goal

pub returns : goal.returns
returns c = map_made character c.args.self.now.places c.from_fn.ensures.items (search rules) (λ i y f' called. search rules)
