use Rattle.std.proofs.Common.{◌≡◌, None, rules}
use Rattle.guard.proofs.signing.find_session.Goals as goal
use Rattle.guard.proofs.Finding.{none_found, none_there, one_there}

pub returns-in_err-i : goal.returns-in_err-i
returns-in_err-i c =
    let answer : c.from_residual.result ≡ None = search rules in
    rw answer (none_found c.session_name.result _ c.args.sessions.now c.session_name.ensures (search rules))

pub returns-in_err-get : goal.returns-in_err-get
returns-in_err-get c =
    let answer : c.from_residual-in_err-get.result ≡ None = search rules in
    rw answer (none_there c.session_name.result _ c.args.sessions.now c.session_name.ensures c.in_ok-i.i (search rules) (search rules))

pub returns : goal.returns
returns c = one_there c.session_name.result _ c.args.sessions.now c.session_name.ensures c.in_ok-i.i c.in_ok-get.field-0.now (search rules) (search rules)
