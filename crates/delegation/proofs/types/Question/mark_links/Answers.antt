use Rattle.std.proofs.Common.{take, sym, ap, ◌∙◌, ◌+◌, arith}
use Rattle.std.specs.Option.{option_copied}
use Rattle.delegation.specs.Given.{Asked}
use Rattle.delegation.specs.Marks.{looked, marked}
use Rattle.delegation.proofs.Walks.{look_more}
use Rattle.delegation.proofs.types.Question.mark_links.Goals as goal

pub loop-i-preserved : goal.loop-i-preserved
loop-i-preserved c =
    let look = looked c.args.self.now (option_copied c.args.next) in
    let links = ap (λ (a : Asked). a.tables.certificates) c.self.view_is in
    let more = look_more look c.self.inside.links.now c.args.marks.now c.loop-i.marks c.loop-i.i _ _ c.look.result c.loop-i-test.true (omega arith)
    (c.loop-i.invariant ∙ ap (λ cs. marked look (take c.loop-i.i cs) c.args.marks.now) (sym links)) c.look.ensures in
    more ∙ ap (λ cs. marked look (take (c.loop-i.i + 1) cs) c.args.marks.now) links
