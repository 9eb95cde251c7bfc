use Rattle.std.proofs.Common.{◌&&◌, ap, ◌∙◌, rules, tests}
use Rattle.std.proofs.lemmas.Iterator.{YieldsList-from_slice, YieldsList-from_zip}
use Rattle.std.proofs.lemmas.Iterator.Search.{any_from_yields_List}
use Rattle.std.proofs.lemmas.Iterator.Consumers.{YieldsList-at}
use Rattle.records.specs.declared.types.Certificate.{Certificate}
use Rattle.machine.specs.Delegation.{may_begin}
use Rattle.delegation.specs.Given.{Asked}
use Rattle.delegation.specs.Marks.{leads}
use Rattle.delegation.specs.declared.types.Mark.{Mark}
use Rattle.delegation.proofs.Walks.{any_leading_zip}
use Rattle.delegation.proofs.types.Question.begins.Goals as goal

pub returns : goal.returns
returns c =
    let asked = c.args.self.now in
    let links = asked.tables.certificates in
    let same = ap (λ (a : Asked). a.tables.certificates) c.self.view_is in
    let start = λ (d : Certificate). may_begin asked.tables asked.clock asked.name d.issuer in
    let road = YieldsList-from_zip (YieldsList-at c.zip.ensures.first (YieldsList-from_slice links (c.iter.ensures.rest ∙ same))) (YieldsList-from_slice c.args.marks.now c.zip.ensures.second.0) in
    any_from_yields_List (λ (p : Certificate × Mark). leads p.1 && start p.0) c.any.new.self _ _ c.any.ensures.ran road (λ x b f k. search (rules, tests))
    ∙ any_leading_zip start links c.args.marks.now
