-- The row of lesser slot, or of the table that has one left, is the next.
use Rattle.saved.proofs.ProgressLaws.{more_carried, more_tombstone}
use Rattle.saved.proofs.HeldRows.save_next.Goals as goal

pub returns-then-tombstone_first : goal.returns-then-tombstone_first
returns-then-tombstone_first c =
    let y = c.tombstone_first.ensures.tombstone c.if-tombstone_first.true in
    more_tombstone c.args.self c.args.progress.now _ _ _ c.requires.0.within y.0 y.1 _ c.read-row.ensures c.save-progress.ensures

pub returns : goal.returns
returns c =
    let y = c.tombstone_first.ensures.carried c.if-tombstone_first.false in
    more_carried c.args.self c.args.progress.now _ _ _ c.requires.0.below y.0 y.1 _ c.read-row-2.ensures c.save-progress-2.ensures
