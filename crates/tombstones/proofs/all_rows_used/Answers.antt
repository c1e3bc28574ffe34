-- Below the limit all stay, and from it on one goes.
use Rattle.tombstones.proofs.ChoiceLaws.{used_few, free_many}
use Rattle.tombstones.proofs.all_rows_used.Goals as goal

pub returns-then-n-lt-MAX_TOMBSTONES : goal.returns-then-n-lt-MAX_TOMBSTONES
returns-then-n-lt-MAX_TOMBSTONES c = used_few _ _ c.len-n.ensures.is c.if-n-lt-MAX_TOMBSTONES.true

pub returns-else-n-lt-MAX_TOMBSTONES : goal.returns-else-n-lt-MAX_TOMBSTONES
returns-else-n-lt-MAX_TOMBSTONES c = free_many _ _ c.len-n.ensures.is c.if-n-lt-MAX_TOMBSTONES.false
