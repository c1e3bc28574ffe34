-- `strangers`: whether a row has a stranger is whether one from i on has; the contact before is known. Assumes nothing.
use Rattle.std.proofs.Common.{◌≡◌, true, drop, MatchOption}
use Rattle.table.specs.Tables.{rows_in}
use Rattle.rows.specs.Rows.{contact_codec}
use Rattle.model.specs.Contacts.{known}
use Rattle.model.specs.Window.{window_rows, strangers}
use Rattle.holdings.proofs.window.strangers.Given as goal

abbrev pub invariant-loop-i : goal.invariant-loop-i
invariant-loop-i l = record {
  before : MatchOption l.before Unit (λ b. known (rows_in contact_codec l.contacts) b ≡ true);
  left : strangers (rows_in contact_codec l.contacts) (window_rows l.window) ≡ strangers (rows_in contact_codec l.contacts) (drop l.i (window_rows l.window));
}
