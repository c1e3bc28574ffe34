-- `new_row`: each part of the row. Assumes nothing.
use Rattle.envelope.proofs.CallLaws.{new_row_lem}
use Rattle.envelope.proofs.new_row.Goals as goal

pub returns : goal.returns
returns c = new_row_lem _ _ _ _ _ _ _ _ c.lifetime_end-end.ensures c.min.ensures c.min-2.ensures
