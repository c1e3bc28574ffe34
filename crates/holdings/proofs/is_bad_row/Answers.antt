-- `holdings::is_bad_row`: the peer first, then the tag. Assumes nothing.
use Rattle.std.proofs.Common.{sym, rules}
use Rattle.holdings.proofs.RowLaws.{bad_row}
use Rattle.holdings.proofs.is_bad_row.Goals as goal

pub returns-then-eq : goal.returns-then-eq
returns-then-eq c = bad_row _ _ _ _ _ c.get_u64.ensures (sym c.if-eq.ensures) (search rules) c.same.ensures
