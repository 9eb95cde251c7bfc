use Rattle.std.proofs.Common.{◌∙◌}
use Rattle.tables.specs.Place.{named}
use Rattle.guard.proofs.listing.lists.Goals as goal
use Rattle.guard.proofs.Finding.{is_some_any}

pub returns : goal.returns
returns g c = c.contains.ensures.is_kept ∙ is_some_any (named g.T.Record.key g.T.Record.equal c.args.key.now) (c.args.table.now)
