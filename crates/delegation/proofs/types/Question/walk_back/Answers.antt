use Rattle.std.proofs.Common.{sym, ap}
use Rattle.std.specs.Option.{option_copied}
use Rattle.std.proofs.lemmas.Iterator.{YieldsList-from_slice}
use Rattle.std.proofs.lemmas.Iterator.Adapters.{YieldsList-from_rev_slice}
use Rattle.std.proofs.lemmas.Iterator.Consumers.{YieldsList-from_chain, YieldsList-turn}
use Rattle.delegation.specs.Given.{Asked}
use Rattle.delegation.proofs.Walks.{member_there_and_back}
use Rattle.delegation.proofs.Chains.{link_leads}
use Rattle.delegation.proofs.types.Question.walk_back.Goals as goal

pub loop-link-preserved-then-is_link : goal.loop-link-preserved-then-is_link
loop-link-preserved-then-is_link c =
    let asked = c.args.self.now in
    let links = asked.tables.certificates in
    let same = ap (λ (a : Asked). a.tables.certificates) c.self.view_is in
    let road = YieldsList-from_chain (YieldsList-from_rev_slice links (cc)) (YieldsList-from_slice links (cc)) (cc) (cc) in
    let turn = YieldsList-turn road c.loop-link.yielded _ c.loop-link.yielded_by _ _ c.in-Some.link c.in-Some.is c.next.ensures.steps in
    link_leads asked (option_copied c.loop-link.first) c.in-Some.link.now (member_there_and_back links _ _ turn.0 turn.1) c.loop-link.invariant (sym c.if-is_link.ensures)
