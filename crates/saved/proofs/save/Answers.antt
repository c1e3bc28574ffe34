-- The area is too short, or the file is the model's.
use Rattle.std.proofs.Common.{length, refl, sym, ◌∙◌, arith}
use Rattle.table.specs.Rows.{held}
use Rattle.table.proofs.RowLaws.{held_le}
use Rattle.model.specs.Cells.{cell_count}
use Rattle.saved.proofs.SaveLaws.{says_no_room, rooms, says_saved}
use Rattle.saved.proofs.save.Goals as goal

pub short_file-requires : goal.short_file-requires
short_file-requires c = omega (arith, c.fit-cells.ensures.is, held_le (length c.args.carried_cells.now) 2064 256)

pub returns-then-short_file : goal.returns-then-short_file
unfolding held cell_count
returns-then-short_file c a =
    says_no_room _ _ _ _ _ a _ c.fit-cells.ensures.is (sym c.short_file.ensures ∙ c.if-short_file.true)

pub save_file-requires : goal.save_file-requires
save_file-requires c =
    rooms c.fit-rows.ensures _ _ (omega (arith, c.min.ensures)) (sym c.short_file.ensures ∙ c.if-short_file.false)

pub returns : goal.returns
unfolding held cell_count
returns c a =
    says_saved _ _ _ a _ c.fit-cells.ensures.is c.fit-rows.ensures c.min.ensures refl (sym c.short_file.ensures ∙ c.if-short_file.false) _ _ c.save_file.ensures
