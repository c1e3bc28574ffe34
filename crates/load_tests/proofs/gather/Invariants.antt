-- `gather`: the rows are those of the records so far. Assumes nothing.
use Rattle.std.proofs.Common.{length}
use Rattle.load_tests.specs.Records.{records, left}
use Rattle.load_tests.proofs.KeyLaws.{Gathering}
use Rattle.load_tests.proofs.gather.Given as goal

abbrev pub invariant-loop-record : goal.invariant-loop-record
invariant-loop-record l = record {
  can : goal.iterator-loop-record.can_next l.record-iterator;
  finite : goal.iterator-loop-record.is_finite l.record-iterator;
  left : Gathering (records l.file) (left l.record-iterator) (length l.initial.keys) l.k l.keys;
}
