-- `list_own`: the own puts of the rows before i are listed. Assumes nothing.
use Rattle.std.proofs.Common.{◌≡◌, length}
use Rattle.table.specs.Tables.{rows_in}
use Rattle.rows.specs.Rows.{own_codec}
use Rattle.model.specs.Maintenance.{own_expired}
use Rattle.maintenance.specs.Expiry.{Putting, own_put}
use Rattle.maintenance.proofs.list_own.Given as goal

abbrev pub invariant-loop-i : goal.invariant-loop-i
invariant-loop-i l =
    Putting own_put (own_expired l.minute) (rows_in own_codec l.own) l.initial.actions l.i l.k l.actions × (length l.actions ≡ length l.initial.actions)
