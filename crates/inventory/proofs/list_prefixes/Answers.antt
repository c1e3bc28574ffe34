use Rattle.std.proofs.Common.{arith}
use Rattle.inventory.specs.Inventory.{prefix_of}
use Rattle.inventory.proofs.FillLaws.{filling_start}
use Rattle.inventory.proofs.OursLaws.{listing_next, listing_end}
use Rattle.inventory.proofs.list_prefixes.Goals as goal

pub loop-i-init : goal.loop-i-init
loop-i-init c = filling_start 8 prefix_of _ _ 0

pub loop-i-preserved : goal.loop-i-preserved
loop-i-preserved c =
    listing_next _ c.args.held.now _ c.loop-i.invariant (omega arith) (omega arith) c.row_at.ensures c.push_prefix-k.ensures.0 c.push_prefix-k.ensures.1

pub returns : goal.returns
returns c = listing_end _ c.args.held.now _ c.loop-i.invariant (omega arith)
