-- `lives`: the row is there, and it is tested. Assumes nothing.
use Rattle.std.proofs.Common.{arith}
use Rattle.octets.specs.Bytes.{part}
use Rattle.table.proofs.RowLaws.{length_row}
use Rattle.maintenance.proofs.TestLaws.{tested, there, not_there}
use Rattle.maintenance.proofs.lives.Goals as goal

pub is_live-requires : goal.is_live-requires
unfolding part
is_live-requires g c = omega (arith, length_row c.args.table.area.now g.row.W c.args.i c.args.table.count (omega arith) (omega arith))

pub returns : goal.returns
unfolding part
returns g c =
    there _ _ (omega arith) (tested c.args.table.area.now c.args.i g.row.W c.args.table.count c.args.offset c.args.minute c.is_live.ensures)

pub returns-then-table-i : goal.returns-then-table-i
returns-then-table-i g c = not_there c.args.i c.args.table.count _ (omega arith)
