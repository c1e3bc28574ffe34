use Rattle.std.proofs.Common.{arith}
use Rattle.octets.proofs.Parts.{copied_more, splice_nil, part_nil, part_whole}
use Rattle.octets.proofs.copy_in.Goals as goal

pub loop-k-init : goal.loop-k-init
loop-k-init c = grind (arith, part_nil c.args.src.now 0, splice_nil c.args.dst.now c.args.at)

pub loop-k-preserved : goal.loop-k-preserved
loop-k-preserved c = grind (arith, c.loop-k.invariant, copied_more c.args.dst.now c.args.src.now c.args.at 0 c.loop-k.k (omega (arith, c.requires, c.loop-k-test.true)) (omega (arith, c.loop-k-test.true)))

pub returns : goal.returns
returns c = grind (arith, c.loop-k.invariant, part_whole c.args.src.now c.loop-k.k (omega arith))
