-- `is_live`: the minute is before the expiry. Assumes nothing.
use Rattle.maintenance.proofs.TestLaws.{live_row_lem}
use Rattle.maintenance.proofs.is_live.Goals as goal

pub returns : goal.returns
returns c = live_row_lem _ _ c.args.minute c.get_u32.ensures
