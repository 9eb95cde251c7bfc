use Rattle.std.proofs.Common.{sym, rules, tests}
use Rattle.std.proofs.lemmas.Iterator.{YieldsList-from_slice}
use Rattle.std.proofs.lemmas.Iterator.Search.{position_from_yields_List}
use Rattle.tables.specs.Place.{named}
use Rattle.tables.proofs.Places.{FirstPlace-position}
use Rattle.tables.proofs.rows.find.Goals as goal

pub returns-clause-first_place : goal.returns-clause-first_place
returns-clause-first_place g c =
    let test = named g.T.Record.key g.T.Record.equal c.args.key.now in
    let found = position_from_yields_List test _ _ _ c.position.ensures.ran (YieldsList-from_slice c.args.rows.now cc) (λ x b q k. search (rules, tests)) in
    FirstPlace-position test _ (λ x. g.met.T.Record.decides (g.T.Record.key x) c.args.key.now) _ _ (sym found)
