use Rattle.std.proofs.Common.{refl, rules}
use Rattle.actions.specs.Views.{saying}
use Rattle.requests.specs.Received.{signed_by}
use Rattle.guard.specs.View.{brought}
use Rattle.guard.proofs.types.Guard.deliver.Goals as goal
use Rattle.guard.proofs.Calls.{refused_unread, refused_screened, base_left, delivered}
use Rattle.guard.proofs.Delivering.{lawful_on}

pub returns-in_err-request : goal.returns-in_err-request
returns-in_err-request g c =
    let d = brought g.V.Verifier.width g.V.Verifier.stands g.P.Verifier.width g.P.Verifier.stands c.args.delivery.now in
    let step = refused_unread c.args.self.now (g.S.Service.done c.args.service.now) (g.S.Service.last c.args.service.now) d (g.S.Service.verdict c.args.service.now) c.in_err-request.field-0.0 c.in_err-request.ensures.as_defined c.from_residual.result (search rules) in
    record { is_the_machines_step = step; lawful_after_every_history = lawful_on _ _ _ _ _ step; refusal_leaves_the_service_untouched = λ _. refl }

pub returns-in_err-place : goal.returns-in_err-place
returns-in_err-place g c =
    let d = brought g.V.Verifier.width g.V.Verifier.stands g.P.Verifier.width g.P.Verifier.stands c.args.delivery.now in
    let step = refused_screened c.args.self.now (g.S.Service.done c.args.service.now) (g.S.Service.last c.args.service.now) d (g.S.Service.verdict c.args.service.now)
    (signed_by c.in_ok-request.request) (saying c.in_ok-request.request.arguments) c.kind_asked-kind.result c.in_ok-request.ensures.as_defined c.kind_asked-kind.ensures c.in_err-place.field-0.0 c.in_err-place.ensures.answer c.from_residual-in_err-place.result (search rules) in
    record { is_the_machines_step = step; lawful_after_every_history = lawful_on _ _ _ _ _ step; refusal_leaves_the_service_untouched = λ _. refl }

pub consume-requires : goal.consume-requires
consume-requires g c =
    let d = brought g.V.Verifier.width g.V.Verifier.stands g.P.Verifier.width g.P.Verifier.stands c.args.delivery.now in
    base_left c.args.self.now (g.S.Service.done c.args.service.now) (g.S.Service.last c.args.service.now) d (g.S.Service.verdict c.args.service.now)
    (signed_by c.in_ok-request.request) (saying c.in_ok-request.request.arguments) c.kind_asked-kind.result c.in_ok-request.ensures.as_defined c.kind_asked-kind.ensures c.in_ok-place.ensures.answer c.in_ok-place.place c.in_ok-place.ensures.place

pub returns : goal.returns
returns g c =
    let d = brought g.V.Verifier.width g.V.Verifier.stands g.P.Verifier.width g.P.Verifier.stands c.args.delivery.now in
    let step = delivered c.args.self.now (g.S.Service.done c.args.service.now) (g.S.Service.last c.args.service.now) d (g.S.Service.verdict c.args.service.now)
    (signed_by c.in_ok-request.request) (saying c.in_ok-request.request.arguments) c.kind_asked-kind.result c.in_ok-request.ensures.as_defined c.kind_asked-kind.ensures c.in_ok-place.ensures.answer
    c.consume.new.self c.in_ok-place.place c.in_ok-place.ensures.place c.consume.ensures.sessions c.consume.ensures.base c.consume.ensures.nothing_else
    c.act.new.self c.act.result (g.S.Service.done c.act.new.service) (g.S.Service.last c.act.new.service) c.act.ensures.answer c.act.ensures.tables c.act.ensures.done c.act.ensures.last in
    record { is_the_machines_step = step; lawful_after_every_history = lawful_on _ _ _ _ _ step; refusal_leaves_the_service_untouched = c.act.ensures.untouched }
