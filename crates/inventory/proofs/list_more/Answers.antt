-- The prefixes are copied behind those that are there.
use Rattle.std.proofs.Common.{refl}
use Rattle.inventory.proofs.ReceiveLaws.{lengthens}
use Rattle.inventory.proofs.list_more.Goals as goal

pub returns : goal.returns
returns c = lengthens _ _ _ _ c.requires.0 c.requires.1 _ _ _ refl refl c.copy_in.ensures
