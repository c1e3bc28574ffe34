-- `maintain_own`: of the rows before i those that stay stand at the front, the expired ones renewed. Assumes nothing.
use Rattle.table.specs.Codec.{table_of}
use Rattle.rows.specs.Rows.{own_codec}
use Rattle.model.specs.Maintenance.{renew_expired}
use Rattle.maintenance.specs.Expiry.{Rewriting, row_stays}
use Rattle.maintenance.proofs.maintain_own.Given as goal

abbrev pub invariant-loop-i : goal.invariant-loop-i
invariant-loop-i l =
    Rewriting own_codec (renew_expired l.minute l.copies l.end) (row_stays l.minute) (table_of own_codec l.count l.initial.own) l.initial.own l.i l.k l.own
