use Rattle.screen.proofs.RowLaws.{passed_next}
use Rattle.screen.proofs.pass_rows.Goals.{then-tombstone_first, else-tombstone_first}
use Rattle.screen.proofs.pass_rows.Goals as goal

pub loop-row-preserved : goal.loop-row-preserved
loop-row-preserved c =
    let next = passed_next _ _ _ c.loop-row.invariant _ c.tombstone_first.ensures in
    elim c.if-tombstone_first.branch [
      | then-tombstone_first w ↦ rw (w.next-is, w.past-next.ensures) (rw w.if-tombstone_first.true at next)
      | else-tombstone_first w ↦ rw (w.next-is, w.past-next-else-tombstone_first.ensures) (rw w.if-tombstone_first.false at next)
    ]
