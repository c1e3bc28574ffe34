-- The row that is read is the one at i, and the one with fewer copies goes in its place.
use Rattle.std.proofs.Common.{ℕ, ap}
use Rattle.rows.specs.Rows.{carried_codec}
use Rattle.model.specs.Exchange.{no_carried, lowered}
use Rattle.handover.specs.Handing.{put_of}
use Rattle.handover.proofs.HandLaws.{takes_off}
use Rattle.handover.proofs.take_off.Goals as goal

pub returns : goal.returns
unfolding lowered
returns c =
    takes_off carried_codec no_carried (lowered c.args.n) put_of _ _ _ _ _ _ _ c.requires.0 c.read-row.ensures
    (ap (λ (k : ℕ). record c.read-row.result { copies = k }) c.saturating_sub.ensures) c.put_courier.ensures c.replace.ensures
