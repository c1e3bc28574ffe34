use Rattle.std.proofs.Common.{arith}
use Rattle.load_tests.proofs.RecordLaws.{turn_long}
use Rattle.load_tests.proofs.SlotLaws.{ascending_next, ascending_end}
use Rattle.load_tests.proofs.slots_ascend.Goals as goal

pub get_u64-slot-requires : goal.get_u64-slot-requires
get_u64-slot-requires c = omega (arith, turn_long _ c.in-Some.ensures.steps)

pub loop-record-preserved : goal.loop-record-preserved
loop-record-preserved c =
    record { can = tt; finite = tt; left = ascending_next c.loop-record.invariant.left c.in-Some.ensures.steps c.get_u64-slot.ensures c.if-slot-low.false }

pub returns : goal.returns
returns c = λ e. ascending_end c.loop-record.invariant.left c.in-None.ensures.steps.0
