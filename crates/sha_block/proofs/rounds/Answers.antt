use Rattle.std.proofs.Common.{◌*◌, arith}
use Rattle.sha_block.specs.Block.{round}
use Rattle.sha_block.proofs.Loop.{turns_add}
use Rattle.sha_block.proofs.rounds.Goals as goal

pub loop-i-preserved : goal.loop-i-preserved
loop-i-preserved c = grind (arith, turns_add (round c.args.w.now) (4 * c.loop-i.i) 4 0 c.args.h)
