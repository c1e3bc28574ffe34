-- The rows done and those left are all rows, and the records of those done stand in the file.
use Rattle.std.proofs.Common.{◌≡◌, ◌+◌}
use Rattle.saved.specs.Saving.{Saving}
use Rattle.saved.proofs.HeldRows.save_rows.Given as goal

abbrev pub invariant-loop-row : goal.invariant-loop-row
invariant-loop-row l = (l.progress.next.carried + l.progress.next.tombstones ≡ l._row) × Saving l.self l.initial.file l.file l.progress
