-- The word, blanks and the line end, one behind the other.
use Rattle.std.proofs.Common.{refl, arith}
use Rattle.model.specs.Screen.{heading}
use Rattle.screen.proofs.LineLaws.{behind}
use Rattle.screen.proofs.put_heading.Goals as goal

pub returns : goal.returns
unfolding heading
returns c =
    (behind _ (behind _ (record { area = c.copy_in.ensures; size = refl }) c.put_blanks.ensures refl (omega arith)) c.copy_in-2.ensures refl (omega arith)).area
