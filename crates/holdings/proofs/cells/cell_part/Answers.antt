-- The part starts inside the area, and is as long as the least of its lengths.
use Rattle.std.proofs.Common.{arith}
use Rattle.model.specs.Cells.{cell_length}
use Rattle.holdings.proofs.CellLaws.{part_lent}
use Rattle.holdings.proofs.cells.cell_part.Goals as goal

pub slice_bounds-result-end : goal.slice_bounds-result-end
unfolding cell_length
slice_bounds-result-end c = omega arith

pub returns : goal.returns
returns c = part_lent _ _ _ (rw c.from.ensures at c.min-at.ensures) c.cell_length-n.ensures.0
