use Rattle.std.proofs.Common.{ℕ, List, ap, ◌∙◌, rules, tests}
use Rattle.std.specs.Str.{bytes_eq}
use Rattle.std.proofs.lemmas.Iterator.{YieldsList-from_slice}
use Rattle.std.proofs.lemmas.Iterator.Search.{any_from_yields_List}
use Rattle.delegation.specs.Given.{Asked}
use Rattle.delegation.proofs.Walks.{list_any_is}
use Rattle.delegation.proofs.types.Question.is_owner.Goals as goal

pub returns : goal.returns
returns c =
    let q = c.args.self.now in
    let test = λ (o : List ℕ). bytes_eq o c.args.hash.now in
    let owners = c.iter.ensures.rest ∙ ap (λ (a : Asked). a.tables.owners) c.self.view_is in
    any_from_yields_List test _ _ _ c.any.ensures.ran (YieldsList-from_slice q.tables.owners owners) (λ x b f k. search (rules, tests))
    ∙ list_any_is test q.tables.owners
