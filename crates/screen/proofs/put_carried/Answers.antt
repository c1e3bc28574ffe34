-- Front, minutes and end, one behind the other.
use Rattle.std.proofs.Common.{◌≡◌, length, arith, rules}
use Rattle.model.specs.Screen.{screen_line}
use Rattle.model.proofs.ScreenLaws.{length_front, length_minutes, length_carried_end}
use Rattle.screen.proofs.LineLaws.{behind}
use Rattle.screen.proofs.put_carried.Goals as goal

pub returns : goal.returns
unfolding screen_line
returns c =
    (behind _ (behind _ (record { area = c.put_front.ensures; size = length_front _ _ _ ((let h : length c.args.row.tag ≡ 16 = search rules in h)) }) c.put_minutes.ensures (length_minutes _ _) (omega arith))
    c.put_carried_end.ensures (length_carried_end _ _) (omega arith)).area
