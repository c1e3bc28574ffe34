-- The lines of the rows so far stand behind the heading, and the other rows are left.
use Rattle.screen.specs.Page.{Showing}
use Rattle.screen.proofs.put_rows.Given as goal

abbrev pub invariant-loop-j : goal.invariant-loop-j
invariant-loop-j l = Showing l.rows l.minute l.initial.next l.initial.area l.j l.next l.area
