-- `data::leb128`: each turn writes one byte of the encoding (`Encoding`). Assumes nothing.
use Rattle.data.proofs.Leb128Laws.{Encoding}
use Rattle.data.proofs.leb128.Given as goal

abbrev pub invariant-loop-v : goal.invariant-loop-v
invariant-loop-v l = Encoding l.value l.bytes l.v l.n

abbrev pub decreases-loop-v : goal.decreases-loop-v
decreases-loop-v l = l.v
