use Rattle.std.proofs.Common.{arith}
use Rattle.inventory.proofs.ListedLaws.{replying_start, replying_next, replying_end}
use Rattle.inventory.proofs.push_tombs.Goals as goal

pub loop-i-init : goal.loop-i-init
loop-i-init c = replying_start _ _ _ _ _

pub loop-i-preserved : goal.loop-i-preserved
loop-i-preserved c =
    replying_next _ _ _ _ _ c.args.listed.in_bounds c.loop-i.invariant (omega arith) c.get_array-prefix.ensures
    c.push_tomb-k.ensures.0 c.push_tomb-k.ensures.1 (omega arith)

pub returns : goal.returns
returns c = replying_end _ _ _ _ _ c.args.listed.in_bounds c.loop-i.invariant (omega arith)
