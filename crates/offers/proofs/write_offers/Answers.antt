use Rattle.std.proofs.Common.{◌+◌, ◌<◌, arith}
use Rattle.offers.proofs.WritingLaws.{offering_start, offering_skip, offering_next, offering_end}
use Rattle.offers.proofs.write_offers.Goals as goal
use Rattle.offers.proofs.write_offers.Goals.{then-flags-i, else-flags-i}

pub loop-i-init : goal.loop-i-init
loop-i-init c = offering_start _ _ _ _ _

pub loop-i-preserved : goal.loop-i-preserved
loop-i-preserved c =
    let more : c.loop-i.i < c.args.held.now.own.n + c.args.held.now.carried.n = omega arith in
    let room = c.requires.room.0 in
    let so_far = c.loop-i.invariant in
    elim c.if-flags-i.branch [
      | then-flags-i w ↦
          rw (w.replies-is, w.offers-is, w.sent-is, w.offer_row-sent.ensures.reply)
          (offering_next _ _ _ _ _ c.requires.in_bounds so_far more w.if-flags-i.true
          w.offer_row-sent.ensures.offer (omega arith))
      | else-flags-i w ↦
          rw (w.replies-is, w.offers-is, w.sent-is)
          (offering_skip _ _ _ _ _ c.requires.in_bounds so_far more w.if-flags-i.false)
    ]

pub returns : goal.returns
returns c =
    offering_end _ _ _ _ _ c.requires.in_bounds c.loop-i.invariant (omega arith) c.requires.room.0
