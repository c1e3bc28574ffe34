-- Minutes are left, or the row is past.
use Rattle.std.proofs.Common.{sym, ap, ◌∙◌}
use Rattle.octets.specs.Bytes.{splice}
use Rattle.model.proofs.ScreenLaws.{minutes_left_lem, minutes_past}
use Rattle.screen.proofs.put_minutes.Goals as goal

pub returns-then-minute-expiry : goal.returns-then-minute-expiry
returns-then-minute-expiry c =
    (rw c.from.ensures at c.put_column.ensures) ∙ ap (splice c.args.area.now c.args.at) (sym (minutes_left_lem c.args.minute c.args.expiry c.if-minute-expiry.true))

pub returns : goal.returns
returns c =
    c.copy_in.ensures ∙ ap (splice c.args.area.now c.args.at) (sym (minutes_past c.args.minute c.args.expiry c.if-minute-expiry.false))
