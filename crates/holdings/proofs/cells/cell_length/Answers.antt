-- `holdings::cells::cell_length`: the least of four. Assumes nothing.
use Rattle.std.proofs.Common.{arith}
use Rattle.model.specs.Cells.{cell_length}
use Rattle.holdings.proofs.cells.cell_length.Goals as goal

pub returns : goal.returns
unfolding cell_length
returns c = (omega arith, omega arith)
