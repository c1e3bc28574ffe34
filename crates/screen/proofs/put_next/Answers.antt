-- The row of lesser slot, or of the table that has one left, is the next.
use Rattle.std.proofs.Common.{rules}
use Rattle.screen.proofs.RowLaws.{put_carried_row, put_tombstone_row}
use Rattle.screen.proofs.put_next.Goals as goal

pub returns-then-tombstone_first : goal.returns-then-tombstone_first
returns-then-tombstone_first c =
    let w = c.tombstone_first.ensures.tombstone c.if-tombstone_first.true in
    put_tombstone_row c.args.rows _ c.args.next.now _ _ _ _ (search rules) c.requires.0.within w.0 w.1 c.read-row.ensures c.put_tombstone.ensures

pub returns : goal.returns
returns c =
    let w = c.tombstone_first.ensures.carried c.if-tombstone_first.false in
    put_carried_row c.args.rows _ c.args.next.now _ _ _ _ (search rules) c.requires.0.below w.0 w.1 c.read-row-2.ensures c.put_carried.ensures
