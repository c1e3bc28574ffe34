-- The mark, then the number behind it.
use Rattle.saved.proofs.RecordLaws.{mark_made}
use Rattle.saved.proofs.marked.Goals as goal

pub returns : goal.returns
returns c = mark_made _ _ _ _ c.put_array.ensures.1 c.put_array.ensures.0 c.put_u64.ensures
