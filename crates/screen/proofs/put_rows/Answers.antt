use Rattle.std.proofs.Common.{arith}
use Rattle.screen.proofs.RowLaws.{showing_start, showing_more}
use Rattle.screen.proofs.put_rows.Goals as goal

pub loop-j-init : goal.loop-j-init
loop-j-init c = showing_start _ _ _ _ c.requires.within c.requires.below

pub loop-j-preserved : goal.loop-j-preserved
loop-j-preserved c =
    showing_more _ _ _ _ _ _ _ c.loop-j.invariant _ _ (omega (arith, c.requires.room, c.loop-j-test.true)) c.put_next.ensures
