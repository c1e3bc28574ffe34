-- The offer at i is read, and goes.
use Rattle.std.proofs.Common.{refl}
use Rattle.handover.proofs.CallLaws.{clears}
use Rattle.handover.proofs.clear_offer.Goals as goal

pub returns : goal.returns
returns c = clears _ _ _ c.requires c.read-copies.ensures refl (rw c.min.ensures at c.remove-exchange.ensures)
