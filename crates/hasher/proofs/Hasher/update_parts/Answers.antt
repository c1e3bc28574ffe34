use mathlib.Core.Path.{refl}
use Rattle.hasher.proofs.TakenLaws.{added_by}
use Rattle.hasher.proofs.Hasher.update_parts.Goals as goal

pub returns : goal.returns
returns c = added_by _ _ _ _ _ c.update.ensures c.update-2.ensures c.update-3.ensures refl
