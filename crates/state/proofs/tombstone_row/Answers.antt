-- `state::tombstone_row` meets its contract: refused, or the 37 bytes (`row_written`). Assumes nothing.
use Rattle.std.proofs.Common.{arith, rules}
use Rattle.state.proofs.RowLaws.{row_refused, row_written}
use Rattle.state.proofs.tombstone_row.Goals as goal

pub returns-then-blob-lt-BLOB : goal.returns-then-blob-lt-BLOB
returns-then-blob-lt-BLOB c = row_refused _ c.args.blob.now (omega arith)

pub returns : goal.returns
returns c =
    row_written _ c.args.blob.now _ 37 _ (omega arith) c.tombstone_bytes-b.ensures (search rules) c.copy_in.ensures
