-- What was sent are the first bytes, as many as are counted. Assumes nothing.
use Rattle.std.proofs.Common.{◌-◌, length}
use Rattle.drill.specs.Written.{Takes}
use Rattle.drill.proofs.write_front.Given as goal

abbrev pub invariant-loop-done : goal.invariant-loop-done
invariant-loop-done g l = Takes l.total l.bytes l.done l.sum

abbrev pub decreases-loop-done : goal.decreases-loop-done
decreases-loop-done g l = length l.bytes - l.done
