-- The digits so far stand to the right; what is left of the column is the same column of what is left of the number.
use mathlib.Core.Path.{◌≡◌}
use Rattle.octets.specs.Bytes.{splice}
use Rattle.columns.specs.Columns.{column}
use Rattle.columns.proofs.put_column.Given as goal

abbrev pub invariant-loop-k : goal.invariant-loop-k
invariant-loop-k l = splice l.out l.at (column l.k l.v) ≡ splice l.initial.out l.at (column l.width l.n)
