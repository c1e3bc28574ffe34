-- `slots_ascend`: every slot so far is below low, and there once. Assumes nothing.
use Rattle.load_tests.specs.Records.{records, left}
use Rattle.load_tests.proofs.SlotLaws.{Ascending}
use Rattle.load_tests.proofs.slots_ascend.Given as goal

abbrev pub invariant-loop-record : goal.invariant-loop-record
invariant-loop-record l = record {
  can : goal.iterator-loop-record.can_next l.record-iterator;
  finite : goal.iterator-loop-record.is_finite l.record-iterator;
  left : Ascending (records l.file) (left l.record-iterator) l.low;
}
