-- `records`: those behind the first ten bytes. Assumes nothing.
use Rattle.load_tests.specs.Records.{left}
use Rattle.load_tests.proofs.RecordLaws.{starts}
use Rattle.load_tests.proofs.records.Goals as goal

pub returns : goal.returns
unfolding left
returns c = starts c.args.file.now c.min.ensures
