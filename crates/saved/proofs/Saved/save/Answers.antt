-- The record of the row's blob.
use Rattle.std.proofs.Common.{arith}
use Rattle.saved.proofs.RecordLaws.{recorded}
use Rattle.saved.proofs.Saved.save.Goals as goal

pub returns : goal.returns
returns g c =
    recorded _ _ _ (omega (arith, c.well_formed)) (c.mark.ensures c.args.cells.now) _ _ _ _ _ _ _ _ c.blob-n.ensures (c.slot.ensures c.args.cells.now) c.put_record.ensures
