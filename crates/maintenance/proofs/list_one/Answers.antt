-- `list_one`: a row that lives is passed, else the lower slot is listed. Assumes nothing.
use Rattle.std.proofs.Common.{refl}
use Rattle.maintenance.proofs.StepLaws.{step_carried, step_tombstone, list_carried, list_tombstone}
use Rattle.maintenance.proofs.list_one.Goals as goal
use Rattle.maintenance.proofs.list_one.Goals.{then-tombstone_first, else-tombstone_first}

pub returns-then-lives : goal.returns-then-lives
returns-then-lives c = step_carried _ _ _ _ c.requires c.lives.ensures _ c.if-lives.true

pub returns-then-lives-2 : goal.returns-then-lives-2
returns-then-lives-2 c =
    step_tombstone _ _ _ _ c.requires c.lives.ensures c.if-lives.false c.lives-2.ensures _ c.if-lives-2.true

pub returns : goal.returns
returns c = elim c.if-tombstone_first.branch [
  | then-tombstone_first w ↦ rw (w.progress-is, w.actions-is) (list_tombstone _ _ _ _ c.requires c.lives.ensures c.if-lives.false c.lives-2.ensures c.if-lives-2.false
      c.tombstone_first.ensures _ _ _ refl w.delete_courier.ensures w.if-tombstone_first.true w.get_u64-slot.ensures)
  | else-tombstone_first w ↦ rw (w.progress-is, w.actions-is) (list_carried _ _ _ _ c.requires c.lives.ensures c.if-lives.false c.lives-2.ensures c.if-lives-2.false
      c.tombstone_first.ensures _ _ _ refl w.delete_courier-else-tombstone_first.ensures w.if-tombstone_first.false w.get_u64-slot-else-tombstone_first.ensures)
]
