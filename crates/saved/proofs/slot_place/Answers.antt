-- Every row that fits is tested, by its first 8 bytes.
use Rattle.std.proofs.Common.{rules}
use Rattle.saved.specs.Blobs.{has_slot}
use Rattle.saved.proofs.slot_place.Goals as goal

pub returns : goal.returns
unfolding has_slot
returns g c = c.position.ensures (has_slot c.args.slot) (λ row b h e. search rules)
