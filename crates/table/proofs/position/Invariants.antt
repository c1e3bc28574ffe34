-- `table::position`: what is to be found is what is to be found from row i on. Assumes nothing.
use Rattle.std.proofs.Common.{◌≡◌, ℕ, Bool, List, drop}
use Rattle.table.specs.Lists.{position, position_from}
use Rattle.table.specs.Rows.{rows}
use Rattle.table.specs.Tests.{TestsRows}
use Rattle.table.proofs.position.Given as goal

abbrev pub invariant-loop-i : goal.invariant-loop-i
invariant-loop-i g l =
    (p : List ℕ → Bool) → TestsRows g.F.Fn l.test l.width p → position p (rows l.width l.n l.area) ≡ position_from l.i p (drop l.i (rows l.width l.n l.area))
