use Rattle.std.proofs.Common.{arith}
use Rattle.octets.proofs.Parts.{moved_more, splice_nil, part_nil}
use Rattle.octets.proofs.move_down.Goals as goal

pub loop-k-init : goal.loop-k-init
loop-k-init c = grind (arith, part_nil c.args.area.now c.args.from, splice_nil c.args.area.now c.args.to)

pub loop-k-preserved : goal.loop-k-preserved
loop-k-preserved c =
    moved_more c.args.area.now c.loop-k.area c.args.to c.args.from c.loop-k.k c.requires.0 (omega (arith, c.requires, c.loop-k-test.true)) c.loop-k.invariant
