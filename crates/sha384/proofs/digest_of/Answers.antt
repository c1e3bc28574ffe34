use Rattle.std.proofs.Common.{arith}
use Rattle.sha384.proofs.Ends.{digest_is}
use Rattle.sha384.proofs.digest_of.Goals as goal

pub returns : goal.returns
returns c = digest_is _ c.loop-i.d c.loop-i.i (omega arith) (omega arith) c.loop-i.invariant.1
