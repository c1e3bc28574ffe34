-- The records behind the mark and the next slot.
use Rattle.std.proofs.Common.{arith}
use Rattle.saved.proofs.RecordLaws.{file_filled}
use Rattle.saved.proofs.HeldRows.save_file.Goals as goal

pub returns : goal.returns
returns c =
    file_filled _ _ _ _ _ _ _ (omega (arith, c.requires)) c.marked-head.ensures c.copy_in.ensures c.save_rows.ensures
