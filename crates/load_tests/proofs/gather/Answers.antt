use Rattle.std.proofs.Common.{ap, ◌∙◌, arith}
use Rattle.octets.specs.Bytes.{part}
use Rattle.octets.proofs.Parts.{length_part}
use Rattle.load_tests.specs.Records.{left}
use Rattle.load_tests.proofs.KeyLaws.{gathering_start, gathering_end, row_long, gather_room, gather_next, gather_past}
use Rattle.load_tests.proofs.gather.Goals as goal

pub loop-record-init : goal.loop-record-init
loop-record-init c = record { can = tt; finite = tt; left = gathering_start _ (ap left c.into_iter-record-iterator.ensures.into_iter_gives ∙ c.records-record-items.ensures) c.requires.0 c.requires.1 }

pub slice_bounds-push-end : goal.slice_bounds-push-end
slice_bounds-push-end c = omega (arith, row_long c.loop-record.invariant.left c.in-Some.ensures.steps)

pub push-k-requires : goal.push-k-requires
unfolding part
push-k-requires c =
    let l = row_long c.loop-record.invariant.left c.in-Some.ensures.steps in (
      omega arith,
      (gather_room c.loop-record.invariant.left c.in-Some.ensures.steps c.has_key.ensures c.if-has_key.true, length_part c.in-Some.record.now 13 24 (omega arith)),
    )

pub loop-record-preserved : goal.loop-record-preserved
loop-record-preserved c =
    record { can = tt; finite = tt; left = gather_past c.loop-record.invariant.left c.in-Some.ensures.steps c.has_key.ensures c.if-has_key.false }

pub loop-record-preserved-then-has_key : goal.loop-record-preserved-then-has_key
unfolding part
loop-record-preserved-then-has_key c =
    record { can = tt; finite = tt; left = gather_next c.loop-record.invariant.left c.in-Some.ensures.steps c.has_key.ensures c.if-has_key.true c.push-k.ensures }

pub returns : goal.returns
returns c = gathering_end c.loop-record.invariant.left c.in-None.ensures.steps.0
