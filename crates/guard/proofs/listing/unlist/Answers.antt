use Rattle.std.proofs.Common.{sym, refl}
use Rattle.tables.specs.Place.{named}
use Rattle.guard.proofs.listing.unlist.Goals as goal
use Rattle.guard.proofs.Ruled.{not_there, there, removed_after}

pub returns-then-not-lists : goal.returns-then-not-lists
returns-then-not-lists g c = record { answer = not_there _ (sym c.if-not-lists.ensures); after = refl }

pub returns : goal.returns
returns g c = record {
  answer = there _ c.if-not-lists.ensures;
  after = removed_after (named g.T.Record.key g.T.Record.equal c.args.key.now) (c.args.table.now) _ c.remove.ensures.after;
}
