use Rattle.std.proofs.Common.{◌≡◌, Err, ap, ◌∙◌, rules}
use Rattle.guard.specs.View.{alone, unplaced}
use Rattle.guard.proofs.types.Guard.screen.Goals as goal
use Rattle.guard.proofs.Screens.{other_control, wrong_kind, passed_on, session_way, key_way, no_session, kinds_compared, false_from_not, true_from_not}

pub returns-then-request-delivery : goal.returns-then-request-delivery
returns-then-request-delivery g c = record { answer = other_control (alone c.args.self.now) _ c.args.kind c.if-request-delivery.true; place = tt }

pub returns-then-ne : goal.returns-then-ne
returns-then-ne g c = record { answer = wrong_kind (alone c.args.self.now) _ c.args.kind c.if-request-delivery.false (false_from_not _ c.if-ne.ensures ∙ kinds_compared c.args.request.now.kind c.args.kind); place = tt }

pub returns-in_err-screen_session-in-Session : goal.returns-in_err-screen_session-in-Session
returns-in_err-screen_session-in-Session g c =
    let same = true_from_not _ c.if-ne.ensures ∙ kinds_compared c.args.request.now.kind c.args.kind in
    let answer : c.from_residual.result ≡ Err c.in_err-screen_session-in-Session.field-0.0 = search rules in
    record { answer = ap unplaced answer ∙ passed_on (alone c.args.self.now) _ c.args.kind c.if-request-delivery.false same _ (c.in_err-screen_session-in-Session.ensures.answer ∙ session_way c.args.kind c.in-Session.is _ _); place = search rules }

pub returns-in_ok-screen_session-in-Session : goal.returns-in_ok-screen_session-in-Session
returns-in_ok-screen_session-in-Session g c =
    let same = true_from_not _ c.if-ne.ensures ∙ kinds_compared c.args.request.now.kind c.args.kind in
    record {
      answer = passed_on (alone c.args.self.now) _ c.args.kind c.if-request-delivery.false same _ (c.in_ok-screen_session-in-Session.ensures.answer ∙ session_way c.args.kind c.in-Session.is _ _);
      place = (search rules, c.in_ok-screen_session-in-Session.ensures.place);
    }

pub returns-in_err-screen_key-in-Unmarked : goal.returns-in_err-screen_key-in-Unmarked
returns-in_err-screen_key-in-Unmarked g c =
    let same = true_from_not _ c.if-ne.ensures ∙ kinds_compared c.args.request.now.kind c.args.kind in
    let answer : c.from_residual-in_err-screen_key-in-Unmarked.result ≡ Err c.in_err-screen_key-in-Unmarked.field-0.0 = search rules in
    record { answer = ap unplaced answer ∙ passed_on (alone c.args.self.now) _ c.args.kind c.if-request-delivery.false same _ (c.in_err-screen_key-in-Unmarked.ensures ∙ key_way c.args.kind c.in-Unmarked.is _ _); place = search rules }

pub returns-in_ok-screen_key-in-Unmarked : goal.returns-in_ok-screen_key-in-Unmarked
returns-in_ok-screen_key-in-Unmarked g c =
    let same = true_from_not _ c.if-ne.ensures ∙ kinds_compared c.args.request.now.kind c.args.kind in
    record { answer = passed_on (alone c.args.self.now) _ c.args.kind c.if-request-delivery.false same _ (c.in_ok-screen_key-in-Unmarked.ensures ∙ key_way c.args.kind c.in-Unmarked.is _ _); place = no_session c.args.kind c.in-Unmarked.is }
