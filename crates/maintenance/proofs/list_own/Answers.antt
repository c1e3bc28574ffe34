use Rattle.std.proofs.Common.{refl, ◌∙◌, arith, le-leb}
use borrow.Author.Tests.{lt-leb}
use Rattle.rows.specs.Rows.{own_codec}
use Rattle.model.specs.Maintenance.{own_puts}
use Rattle.maintenance.proofs.ListedLaws.{putting_start, putting_put, putting_pass, putting_end}
use Rattle.maintenance.proofs.list_own.Goals as goal
use Rattle.maintenance.proofs.list_own.Goals.{then-row-minute, else-row-minute}

pub loop-i-init : goal.loop-i-init
loop-i-init c = (putting_start _ _ _ _ _ _, refl)

pub loop-i-preserved : goal.loop-i-preserved
loop-i-preserved c = elim c.if-row-minute.branch [
  | then-row-minute w ↦ (
    putting_put own_codec _ _ _ _ _ _ _ _ c.loop-i.invariant.0 (omega (arith, c.len-n.ensures.is)) c.read-row.ensures _ _ (le-leb _ _ w.if-row-minute.true) w.k-is
        (omega (arith, c.loop-i.invariant.0.below, c.len-n.ensures.is, w.k-is, c.requires)) (w.actions-is ∙ w.put_queued.ensures),
    c.if-row-minute.auto.actions ∙ c.loop-i.auto.actions,
  )
  | else-row-minute w ↦ (
    putting_pass own_codec _ _ _ _ _ _ _ _ c.loop-i.invariant.0 (omega (arith, c.len-n.ensures.is)) c.read-row.ensures _ _ (lt-leb _ _ w.if-row-minute.false) w.k-is w.actions-is,
    c.if-row-minute.auto.actions ∙ c.loop-i.auto.actions,
  )
]

pub returns : goal.returns
unfolding own_puts
returns c = putting_end own_codec _ _ _ _ _ _ _ _ c.loop-i.invariant.0 (omega (arith, c.len-n.ensures.is))
