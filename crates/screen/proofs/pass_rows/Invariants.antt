-- So many rows are passed, and the rest is left.
use Rattle.screen.specs.Page.{Passed}
use Rattle.screen.proofs.pass_rows.Given as goal

abbrev pub invariant-loop-row : goal.invariant-loop-row
invariant-loop-row l = Passed l.rows l._row l.next
