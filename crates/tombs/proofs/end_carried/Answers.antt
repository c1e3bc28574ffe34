-- If no row is free once room is made, that is number 5; else the carried row changes its table.
use Rattle.std.proofs.Common.{rules}
use Rattle.octets.proofs.Numbers.{bytes_of}
use Rattle.tombs.proofs.WriteLaws.{turns}
use Rattle.tombs.proofs.CallLaws.{no_row, has_row}
use Rattle.tombs.proofs.end_carried.Goals as goal

pub returns-then-all_rows_used : goal.returns-then-all_rows_used
returns-then-all_rows_used c a = no_row _ _ _ _ _ _ _ a c.if-all_rows_used.ensures

pub returns : goal.returns
returns c a =
    has_row _ _ _ _ _ _ _ a c.if-all_rows_used.ensures (turns _ _ _ _ _ _ _ a c.requires.0 c.requires.1 c.read-row.ensures c.tombstone_of.ensures (bytes_of _ (λ i. search rules)) (bytes_of _ (λ i. search rules)) c.remove-device.ensures c.make_room-listed.ensures c.insert_by_slot-device.ensures c.put_courier.ensures)
