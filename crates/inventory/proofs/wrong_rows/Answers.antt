-- The window, then the prefixes.
use Rattle.std.proofs.Common.{sym, refl}
use Rattle.table.specs.Rows.{ragged}
use Rattle.inventory.proofs.TestLaws.{or_no}
use Rattle.inventory.proofs.wrong_rows.Goals as goal

pub returns-else-wrong_window : goal.returns-else-wrong_window
unfolding ragged
returns-else-wrong_window c = or_no (sym c.if-wrong_window.ensures) refl
