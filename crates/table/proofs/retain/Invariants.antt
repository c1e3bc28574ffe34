-- `table::retain`: of the rows gone through, those of which the test holds stand at the front, in place. Assumes nothing.
use Rattle.std.proofs.Common.{◌≡◌, ℕ, Bool, List, ◌≤◌, length}
use Rattle.table.specs.Rows.{Retaining}
use Rattle.table.specs.Tests.{TestsRows}
use Rattle.table.proofs.retain.Given as goal

abbrev pub invariant-loop-from : goal.invariant-loop-from
invariant-loop-from g l = record {
  below : l.kept ≤ l.from;
  size : length l.area ≡ length l.initial.area;
  retaining : (p : List ℕ → Bool) → TestsRows g.F.Fn l.test l.width p → Retaining p l.width l.n l.initial.area l.from l.kept l.area;
}
