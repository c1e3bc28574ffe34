-- `holdings::cells::mark_cells`: the cells of the rows left are yet to be marked; a store past the marks would change nothing. Assumes nothing.
use Rattle.std.proofs.Common.{length}
use Rattle.table.specs.Rows.{held}
use Rattle.holdings.specs.Named.{cells_named}
use Rattle.holdings.proofs.CellLaws.{Chunked}
use Rattle.holdings.proofs.cells.mark_cells.Given as goal

abbrev pub invariant-loop-row : goal.invariant-loop-row
invariant-loop-row g l =
    Chunked g.row.W l.offset (cells_named g.row.W l.offset (held (length l.rows.area.now) g.row.W l.rows.count) l.rows.area.now)
    l.row-iterator.n l.row-iterator.iter.size l.row-iterator.iter.rest.now l.marks
