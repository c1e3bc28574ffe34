-- `table::scan`: what is found so far is what is to be found from row i on. Assumes nothing.
use mathlib.Core.Path.{◌≡◌}
use lib.ListN.{drop}
use Rattle.table.specs.Lists.{position_from}
use Rattle.table.specs.Rows.{rows, has_key}
use Rattle.table.proofs.scan.Given as goal

abbrev pub invariant-loop-i : goal.invariant-loop-i
invariant-loop-i l =
    l.found ≡ position_from l.i (has_key l.offset l.key) (drop l.i (rows l.width l.n l.area))
