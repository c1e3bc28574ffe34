-- `own_place`: the first row from i on that stands after the new one. Assumes nothing.
use Rattle.std.proofs.Common.{◌≡◌, ◌≤◌, drop}
use Rattle.table.specs.Lists.{position, position_from}
use Rattle.table.specs.Tables.{rows_in}
use Rattle.rows.specs.Rows.{own_codec, contact_codec}
use Rattle.model.specs.Own.{stands_after}
use Rattle.own_envelope.proofs.own_place.Given as goal

abbrev pub invariant-loop-i : goal.invariant-loop-i
invariant-loop-i l =
    (l.i ≤ l.n) × (position (stands_after (rows_in contact_codec l.contacts) l.id l.msgno) (rows_in own_codec l.own)
    ≡ position_from l.i (stands_after (rows_in contact_codec l.contacts) l.id l.msgno) (drop l.i (rows_in own_codec l.own)))
