-- `load_records`: those before the ones that are left are loaded. Assumes nothing.
use Rattle.load_tests.specs.Records.{left}
use Rattle.load.specs.Laying.{Loading}
use Rattle.load.proofs.load_records.Given as goal

abbrev pub invariant-loop-record : goal.invariant-loop-record
invariant-loop-record l = record {
  can : goal.iterator-loop-record.can_next l.record-iterator;
  finite : goal.iterator-loop-record.is_finite l.record-iterator;
  loading : Loading l.file l.initial.carried l.initial.tombstones l.initial.cells (left l.record-iterator) l.counts l.carried l.tombstones l.cells;
}
