-- `table::count`: found of the rows before this one, and those from it on. Assumes nothing.
use Rattle.std.proofs.Common.{◌≡◌, ℕ, ◌+◌, ◌≤◌, Bool, List, drop}
use Rattle.table.specs.Lists.{count_by}
use Rattle.table.specs.Rows.{rows}
use Rattle.table.specs.Tests.{TestsRows}
use Rattle.table.proofs.count.Given as goal

abbrev pub invariant-loop-index : goal.invariant-loop-index
invariant-loop-index g l = record {
  below : l.found ≤ l.index;
  counted : (p : List ℕ → Bool) → TestsRows g.F.Fn l.test l.width p
      → count_by p (rows l.width l.n l.area) ≡ l.found + count_by p (drop l.index (rows l.width l.n l.area));
}
