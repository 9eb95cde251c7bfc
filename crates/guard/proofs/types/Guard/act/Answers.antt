use Rattle.std.proofs.Common.{sym, ap, ◌∙◌, rules}
use Rattle.actions.specs.Views.{saying}
use Rattle.machine.specs.Machine.{decided, command_asked}
use Rattle.requests.specs.Received.{signed_by}
use Rattle.guard.specs.View.{alone, brought, opened_as, taken_of}
use Rattle.guard.proofs.types.Guard.act.Goals as goal

pub returns-in-AddAclEntry : goal.returns-in-AddAclEntry
returns-in-AddAclEntry g c = record {
  answer = c.add_entry.ensures.answer
      ∙ sym (ap (λ z. decided (alone c.args.self.now) (opened_as (signed_by c.args.request.now) (brought g.V.Verifier.width g.V.Verifier.stands g.P.Verifier.width g.P.Verifier.stands c.args.delivery.now))
      (taken_of (g.S.Service.verdict c.args.service.now) (command_asked c.args.delivery.now.clock (saying z))) (saying z)) c.in-AddAclEntry.is);
  tables = search rules;
  done = search rules;
  last = search rules;
  untouched = search rules;
  idle = search rules;
}

pub returns-in-CacheCertificate : goal.returns-in-CacheCertificate
returns-in-CacheCertificate g c = record {
  answer = c.cache.ensures.answer
      ∙ sym (ap (λ z. decided (alone c.args.self.now) (opened_as (signed_by c.args.request.now) (brought g.V.Verifier.width g.V.Verifier.stands g.P.Verifier.width g.P.Verifier.stands c.args.delivery.now))
      (taken_of (g.S.Service.verdict c.args.service.now) (command_asked c.args.delivery.now.clock (saying z))) (saying z)) c.in-CacheCertificate.is);
  tables = search rules;
  done = search rules;
  last = search rules;
  untouched = search rules;
  idle = search rules;
}
