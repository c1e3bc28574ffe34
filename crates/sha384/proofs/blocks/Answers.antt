use Rattle.std.proofs.Common.{arith}
use Rattle.sha_block.specs.Loop.{turns}
use Rattle.sha_block.proofs.Loop.{turns_add}
use Rattle.sha384.specs.Sha384.{next}
use Rattle.sha384.proofs.blocks.Goals as goal

pub loop-i-preserved : goal.loop-i-preserved
unfolding turns next
loop-i-preserved c = grind (arith, turns_add (next c.args.m.now) c.loop-i.i 1 0 c.args.g)
