-- Three runs, each behind the last.
use Rattle.std.proofs.Common.{arith}
use Rattle.saved.proofs.RecordLaws.{record_put}
use Rattle.saved.proofs.put_record.Goals as goal

pub returns : goal.returns
returns c =
    record_put _ _ _ _ _ _ _ _ _ (omega (arith, c.well_formed)) c.marked-head.ensures c.copy_in.ensures c.put_u16.ensures c.copy_in-2.ensures c.requires.0
