use Rattle.std.proofs.Common.{◌≡◌, ℕ, Bool, true, false, List, arith}
use Rattle.octets.specs.Bytes.{part}
use Rattle.table.proofs.RowLaws.{row_at, length_row, length_rows}
use Rattle.table.proofs.FindLaws.{row_counted, count_end}
use Rattle.table.specs.Rows.{rows}
use Rattle.table.specs.Tests.{TestsRows}
use Rattle.table.proofs.count.Goals as goal
use Rattle.table.proofs.count.Goals.{then-test, else-test}

pub loop-index-preserved : goal.loop-index-preserved
unfolding part
loop-index-preserved g c =
    let a = c.args.area.now in
    let i = c.loop-index.index in
    let counted = λ (p : List ℕ → Bool) (t : TestsRows g.F.Fn c.args.test c.args.width p) (holds : Bool) (e : c.test.result ≡ holds).
    row_counted c.args.width c.args.n a p i c.loop-index-test.true _ (row_at a c.args.width i c.args.n) _ (t _ _ (length_row a c.args.width i _ c.loop-index-test.true c.requires.fits) c.test.ensures) e in
    elim c.if-test.branch [
      | then-test w ↦ record {
        below = omega (arith, w.found-is, c.loop-index.invariant.below);
        counted = λ p t. omega (arith, w.found-is, c.loop-index.invariant.counted p t, counted p t true w.if-test.true);
      }
      | else-test w ↦ record {
        below = omega (arith, w.found-is, c.loop-index.invariant.below);
        counted = λ p t. omega (arith, w.found-is, c.loop-index.invariant.counted p t, counted p t false w.if-test.false);
      }
    ]

pub returns : goal.returns
returns g c = λ p t.
    omega (
      arith,
      c.loop-index.invariant.counted p t,
      count_end p (rows c.args.width c.args.n c.args.area.now) c.loop-index.index (omega (arith, length_rows c.args.width c.args.n c.args.area.now)),
    )
