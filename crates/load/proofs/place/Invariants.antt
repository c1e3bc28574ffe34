-- `place`: every row from i on is of a higher slot. Assumes nothing.
use Rattle.load.proofs.PlaceLaws.{Above}
use Rattle.load.proofs.place.Given as goal

abbrev pub invariant-loop-i : goal.invariant-loop-i
invariant-loop-i g l = Above g.row.W l.table.count l.table.area.now l.slot l.i
