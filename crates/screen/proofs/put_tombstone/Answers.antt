-- Front, minutes, blanks and the line end, one behind the other.
use Rattle.std.proofs.Common.{◌≡◌, length, refl, arith, rules}
use Rattle.model.specs.Screen.{screen_line}
use Rattle.model.proofs.ScreenLaws.{length_front, length_minutes}
use Rattle.screen.proofs.LineLaws.{behind}
use Rattle.screen.proofs.put_tombstone.Goals as goal

pub returns : goal.returns
unfolding screen_line
returns c =
    (behind _ (behind _ (behind _ (record { area = c.put_front.ensures; size = length_front _ _ _ ((let h : length c.args.row.tag ≡ 16 = search rules in h)) }) c.put_minutes.ensures (length_minutes _ _) (omega arith))
    c.put_blanks.ensures refl (omega arith)) c.copy_in.ensures refl (omega arith)).area
