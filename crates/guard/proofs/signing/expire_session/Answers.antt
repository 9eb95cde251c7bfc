use Rattle.std.proofs.Common.{ap, ◌∙◌}
use Rattle.std.specs.List.{position, remove}
use Rattle.std.specs.Option.{option_map_or}
use Rattle.sessions.specs.Opened.{name_of, same_name}
use Rattle.tables.specs.Place.{named}
use Rattle.requests.specs.Received.{signed_by}
use Rattle.machine.specs.Machine.{signs}
use Rattle.guard.proofs.signing.expire_session.Goals as goal
use Rattle.guard.proofs.Finding.{removed_is_without}

pub returns : goal.returns
returns c =
    c.remove.ensures.after
    ∙ (ap (λ z. option_map_or (remove c.args.sessions.now) (position (named name_of same_name z) (c.args.sessions.now)) c.args.sessions.now) c.session_name.ensures
    ∙ removed_is_without (signs (signed_by c.args.request.now)) (c.args.sessions.now))
