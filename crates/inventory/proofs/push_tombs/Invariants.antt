-- The prefixes seen so far have their tombs written.
use Rattle.table.specs.Tables.{rows_in}
use Rattle.rows.specs.Rows.{tombstone_codec}
use Rattle.model.specs.Exchange.{tomb_for}
use Rattle.inventory.proofs.ListedLaws.{Replying}
use Rattle.inventory.proofs.push_tombs.Given as goal

abbrev pub invariant-loop-i : goal.invariant-loop-i
invariant-loop-i l = Replying l.listed.area.now l.listed.n (tomb_for (rows_in tombstone_codec l.tombstones)) l.initial.replies l.n l.i l.k l.replies
