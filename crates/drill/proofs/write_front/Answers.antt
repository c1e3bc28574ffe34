use Rattle.drill.proofs.WrittenLaws.{takes_on}
use Rattle.drill.proofs.write_front.Goals as goal

pub loop-done-preserved : goal.loop-done-preserved
loop-done-preserved g c = takes_on _ _ c.loop-done.invariant c.write_once-took.ensures
