-- `state::carried_row` meets its contract: refused, or the head and then what lies inside a cell (`carried_written`). Assumes nothing.
use Rattle.std.proofs.Common.{arith, rules}
use Rattle.state.proofs.RowLaws.{row_refused, carried_written}
use Rattle.state.proofs.carried_row.Goals as goal

pub returns-then-blob-lt-BLOB : goal.returns-then-blob-lt-BLOB
returns-then-blob-lt-BLOB c = row_refused _ c.args.blob.now (omega arith)

pub returns : goal.returns
returns c =
    carried_written c.args.row c.args.ct.now c.args.blob.now _ _ _ _ (omega arith) c.carried_head-head.ensures (search rules) c.min-n.ensures c.copy_in.ensures c.copy_in-2.ensures
