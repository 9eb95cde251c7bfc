-- What an array of cells and a table end as, where a record is lent.
use Rattle.std.specs.Prelude.{ℕ, List, Option, slice_set}
use Rattle.std.specs.Borrow.{Lends, LendsIf, Fml, RattleType, MutBor}
use Rattle.tables.specs.contracts.cells.Cells as cells
use Rattle.tables.specs.contracts.table.Table as table

module _ (T N : RattleType) where
  -- once the borrow r ends, the cell i has what was written last through r
  abbrev pub lends_cell : MutBor (cells.the_row T N).Denot → ℕ → MutBor T.Denot → Fml
  lends_cell c i r = Lends (cells.the_row T N) T c r (λ w. record { items = slice_set c.now.items i w })

  -- once the borrow r ends, the record at place i is what was written last through r, and nothing else has changed
  abbrev pub lends_record : MutBor (List T.Denot) → ℕ → MutBor T.Denot → Fml
  lends_record t i r = Lends (table.the_row T N) T t r (slice_set t.now i)

  -- the same where r is a reference, and at `None` the table stays as it is
  abbrev pub lends_get : MutBor (List T.Denot) → ℕ → Option (MutBor T.Denot) → Fml
  lends_get t i r = LendsIf (table.the_row T N) T t r (slice_set t.now i) t.now
