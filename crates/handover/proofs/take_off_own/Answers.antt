-- The row that is read is the one at i, and the one with fewer copies goes in its place.
use Rattle.std.proofs.Common.{ℕ, ap}
use Rattle.rows.specs.Rows.{own_codec}
use Rattle.model.specs.Exchange.{no_own, own_lowered}
use Rattle.handover.specs.Handing.{put_of_own}
use Rattle.handover.proofs.HandLaws.{takes_off}
use Rattle.handover.proofs.take_off_own.Goals as goal

pub returns : goal.returns
unfolding own_lowered
returns c =
    takes_off own_codec no_own (own_lowered c.args.n) put_of_own _ _ _ _ _ _ _ c.requires.0 c.read-row.ensures
    (ap (λ (k : ℕ). record c.read-row.result { copies = k }) c.saturating_sub.ensures) c.put_queued.ensures c.replace.ensures
