-- `holdings::cells::free_own_cell`: a row's cell is the number at offset 52. Assumes nothing.
use Rattle.std.proofs.Common.{refl}
use Rattle.rows.specs.declared.Own.{Own}
use Rattle.rows.specs.Rows.{own_codec, own_of}
use Rattle.holdings.proofs.CellLaws.{free_table}
use Rattle.holdings.proofs.cells.free_own_cell.Goals as goal

pub returns : goal.returns
unfolding own_of
returns c =
    free_table own_codec (λ (r : Own). r.cell) 52 c.args.size c.args.own.count c.args.own.area.now _ (λ b. refl) c.free_cell.ensures
