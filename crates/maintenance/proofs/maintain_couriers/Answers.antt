-- `maintain_couriers`: refused, or the model's maintenance. Assumes nothing.
use Rattle.std.proofs.Common.{sym, ltb-true, ltb-false}
use Rattle.maintenance.proofs.TestLaws.{carried_kept, tombstones_kept}
use Rattle.maintenance.proofs.CallLaws.{says_short, says_done}
use Rattle.maintenance.proofs.maintain_couriers.Goals as goal

pub returns-then-short_actions : goal.returns-then-short_actions
returns-then-short_actions c a = says_short _ _ _ _ _ a (ltb-true _ _ (sym c.if-short_actions.ensures))

pub returns : goal.returns
returns c a =
    says_done _ _ _ _ _ a (ltb-false _ _ (sym c.if-short_actions.ensures)) c.now_min-minute.ensures c.lifetime_end-end.ensures
    c.list_actions-listed.ensures c.maintain_own-device.ensures (carried_kept _ _ _ c.keep_live-device.ensures)
    (tombstones_kept _ _ _ c.keep_live-device-2.ensures)
