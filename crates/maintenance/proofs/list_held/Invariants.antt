-- `list_held`: what is listed and what is left are the deletions of all. Assumes nothing.
use Rattle.std.proofs.Common.{◌≡◌, ◌+◌, length}
use Rattle.table.specs.Tables.{rows_in}
use Rattle.rows.specs.Rows.{carried_codec, tombstone_codec}
use Rattle.maintenance.specs.Expiry.{Merging}
use Rattle.maintenance.proofs.list_held.Given as goal

abbrev pub invariant-loop-row : goal.invariant-loop-row
invariant-loop-row l = record {
  merging : Merging l.minute (rows_in carried_codec l.held.carried) (rows_in tombstone_codec l.held.tombstones) l.initial.actions l.k l.actions l.progress.next.carried l.progress.next.tombstones l.progress.listed;
  size : length l.actions ≡ length l.initial.actions;
  done : l.progress.next.carried + l.progress.next.tombstones ≡ l._row;
}
