use Rattle.std.proofs.Common.{◌&&◌, ap, ◌∙◌, rules, tests}
use Rattle.std.specs.Str.{bytes_eq}
use Rattle.std.proofs.lemmas.Iterator.{YieldsList-from_slice}
use Rattle.std.proofs.lemmas.Iterator.Search.{any_from_yields_List}
use Rattle.records.specs.declared.types.Entry.{Entry}
use Rattle.records.specs.Applicability.{applicable}
use Rattle.delegation.specs.Given.{Asked}
use Rattle.delegation.proofs.Walks.{list_any_is}
use Rattle.delegation.proofs.types.Question.is_entered.Goals as goal

pub returns : goal.returns
returns c =
    let q = c.args.self.now in
    let test = λ (e : Entry). bytes_eq e.subject c.args.hash.now && applicable e.scope q.clock q.name in
    let entries = c.iter.ensures.rest ∙ ap (λ (a : Asked). a.tables.entries) c.self.view_is in
    any_from_yields_List test _ _ _ c.any.ensures.ran (YieldsList-from_slice q.tables.entries entries) (λ x b f k. search (rules, tests))
    ∙ list_any_is test q.tables.entries
