use Rattle.std.proofs.Common.{sym, ◌∙◌, ap₂, rules}
use Rattle.actions.specs.Arguments.{caching_of}
use Rattle.actions.proofs.Reading.{certificate_and_tag}
use Rattle.actions.proofs.arguments.certificate_in.Goals as goal

pub returns : goal.returns
returns c =
    c.caching.ensures
    ∙ ap₂ caching_of c.split_at.ensures.front c.split_at.ensures.back
    ∙ sym (certificate_and_tag c.args.lengths.public c.args.bytes.now (search rules))
