-- Slot, kind, prefix and a blank, one behind the other.
use Rattle.std.proofs.Common.{◌≡◌, length, refl, arith, rules}
use Rattle.columns.proofs.ColumnLaws.{length_column}
use Rattle.model.specs.Screen.{line_front}
use Rattle.model.proofs.ScreenLaws.{length_prefix}
use Rattle.screen.proofs.LineLaws.{behind}
use Rattle.screen.proofs.put_front.Goals as goal

pub returns : goal.returns
unfolding line_front
returns c =
    (behind _ (behind _ (behind _ (record { area = c.put_column.ensures; size = length_column 20 c.args.slot }) c.copy_in.ensures refl (omega arith))
    c.put_hex.ensures (length_prefix c.args.tag ((let h : length c.args.tag ≡ 16 = search rules in h))) (omega arith)) c.put_blanks.ensures refl (omega arith)).area
