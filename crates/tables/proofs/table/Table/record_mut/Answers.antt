use Rattle.std.proofs.Common.{◌<◌, refl, arith, rules}
use Rattle.std.proofs.lemmas.List.{places}
use Rattle.std.proofs.Math.Seq.{take-set-lt}
use Rattle.tables.proofs.table.Table.record_mut.Goals as goal

pub returns : goal.returns
returns g c =
    let inside = c.self.inside in
    let below : c.args.i < inside.len = search rules in
    let written = λ (w : g.row.T.Denot). take-set-lt inside.len inside.cells.items c.args.i w below in (
      (refl, λ w. rw (← c.self.view_is) (λ i. written w i)),
      record { lent = tt; value = grind (arith, places) },
    )
