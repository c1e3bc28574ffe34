-- `holdings::cells::free_carried_cell`: a row's cell is the number at offset 55. Assumes nothing.
use Rattle.std.proofs.Common.{refl}
use Rattle.rows.specs.declared.Carried.{Carried}
use Rattle.rows.specs.Rows.{carried_codec, carried_of}
use Rattle.holdings.proofs.CellLaws.{free_table}
use Rattle.holdings.proofs.cells.free_carried_cell.Goals as goal

pub returns : goal.returns
unfolding carried_of
returns c =
    free_table carried_codec (λ (r : Carried). r.cell) 55 c.args.size c.args.carried.count c.args.carried.area.now _ (λ b. refl) c.free_cell.ensures
