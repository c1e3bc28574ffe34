-- `has_key`: a record that ends before the key would has it not. Assumes nothing.
use Rattle.std.proofs.Common.{arith}
use Rattle.table.specs.Rows.{has_key}
use Rattle.load_tests.proofs.RecordLaws.{no_key}
use Rattle.load_tests.proofs.has_key.Goals as goal

pub returns-then-record-offset : goal.returns-then-record-offset
returns-then-record-offset c = no_key _ _ _ (omega arith)

pub returns-then-record-offset-2 : goal.returns-then-record-offset-2
returns-then-record-offset-2 c = no_key _ _ _ (omega arith)

pub returns : goal.returns
unfolding has_key
returns c = c.same.ensures
