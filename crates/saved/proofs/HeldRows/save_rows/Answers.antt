use Rattle.std.proofs.Common.{◌≡◌, arith, rules}
use Rattle.saved.proofs.ProgressLaws.{saving_start, saving_more, saving_end}
use Rattle.saved.proofs.HeldRows.save_rows.Goals as goal

pub loop-row-init : goal.loop-row-init
loop-row-init c =
    let e : c.default.result ≡ record { carried = 0; tombstones = 0 } = search rules in
    (omega arith, rw e (saving_start _ _))

pub loop-row-preserved : goal.loop-row-preserved
loop-row-preserved c =
    (omega (arith, c.save_next.ensures.on), saving_more _ _ c.requires _ _ c.loop-row.invariant.1 _ _ c.save_next.ensures)

pub returns : goal.returns
returns c = saving_end _ _ c.requires _ _ c.loop-row.invariant.1 (omega arith)
