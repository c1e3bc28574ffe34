-- The rows from i on decide which is the least.
use Rattle.std.proofs.Common.{◌≡◌, drop}
use Rattle.table.specs.Tables.{rows_in}
use Rattle.rows.specs.Rows.{tombstone_codec}
use Rattle.model.specs.Tombs.{least_from, least_expiry}
use Rattle.tombstones.proofs.LeafLaws.{bound, Leads}
use Rattle.tombstones.proofs.least_expiry.Given as goal

abbrev pub invariant-loop-i : goal.invariant-loop-i
invariant-loop-i l =
    (least_from l.i l.best (bound l.i l.low) (drop l.i (rows_in tombstone_codec l.tombstones)) ≡ least_expiry (rows_in tombstone_codec l.tombstones))
    × Leads l.i l.best l.low
