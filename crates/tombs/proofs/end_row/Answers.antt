-- The own row goes, and its tombstone is stored behind its action.
use Rattle.tombs.proofs.WriteLaws.{row_ends}
use Rattle.tombs.proofs.end_row.Goals as goal

pub returns : goal.returns
returns c a h =
    row_ends _ _ _ _ _ _ _ _ c.requires.0 c.requires.1.1 a h c.read-row.ensures c.put_queued.ensures c.remove-device.ensures c.store_tombstone.ensures.0 c.store_tombstone.ensures.1
