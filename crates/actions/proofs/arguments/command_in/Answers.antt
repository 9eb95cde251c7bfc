use Rattle.std.proofs.Common.{◌≡◌, ◌<◌, length, get_or, sym, ◌∙◌, ap₂, rules}
use Rattle.permission.proofs.Fronts.{first_and_rest}
use Rattle.actions.specs.Arguments.{performing_of}
use Rattle.actions.proofs.Reading.{name_and_payload}
use Rattle.actions.proofs.arguments.command_in.Goals as goal

pub returns : goal.returns
returns c =
    let some : 0 < length c.args.bytes.now = search rules in
    let first : get_or c.args.bytes.now 0 0 ≡ c.from-n.result = search rules in
    c.performing.ensures
    ∙ ap₂ performing_of c.split_at.ensures.front c.split_at.ensures.back
    ∙ sym (name_and_payload c.args.bytes.now c.from-n.result _ (first_and_rest c.args.bytes.now c.from-n.result some first) (search rules))
