use Rattle.std.proofs.Common.{◌<◌, ◌∙◌, rules}
use Rattle.std.proofs.lemmas.List.Elements.{recursion_from_All}
use Rattle.keyhash.proofs.Groups.{join_bytes}
use Rattle.keyhash.proofs.base64.Digits.hash.Goals as goal

pub returns : goal.returns
returns c =
    let under = recursion_from_All (λ d. d < 64) c.args.self.now.places c.args.self.now.of_six_bits in
    c.copy_from_slice.ensures.after ∙ join_bytes c.args.self.now.places c.join.result (c.join.ensures under) under (search rules) (search rules)
