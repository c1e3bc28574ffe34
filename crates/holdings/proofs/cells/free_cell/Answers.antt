-- `holdings::cells::free_cell`: the first cell that is not marked is the first that no row names. Assumes nothing.
use Rattle.std.proofs.Common.{◌∙◌, length-take, arith, rules}
use Rattle.table.specs.Rows.{held}
use Rattle.table.proofs.RowLaws.{held_le}
use Rattle.holdings.proofs.CellLaws.{first_free}
use Rattle.holdings.proofs.cells.free_cell.Goals as goal

pub slice_bounds-marks-end : goal.slice_bounds-marks-end
slice_bounds-marks-end g c = omega (arith, c.fit.ensures.is, held_le c.args.size 2064 256)

pub slice_bounds-first_unmarked-end : goal.slice_bounds-first_unmarked-end
slice_bounds-first_unmarked-end g c = omega (arith, c.fit.ensures.is, held_le c.args.size 2064 256, length-take c.fit.result c.mark_cells-marks.result)

pub returns : goal.returns
unfolding held
returns g c = c.first_unmarked.ensures ∙ first_free _ _ (search rules) c.mark_cells-marks.ensures _ _ c.fit.ensures.is
