-- The row is put in at its place by slot.
use Rattle.holdings.proofs.SlotLaws.{place_le}
use Rattle.holdings.proofs.SlotLaws.{by_slot_lem}
use Rattle.holdings.proofs.insert_by_slot.Goals as goal

pub insert-requires-clause-place : goal.insert-requires-clause-place
insert-requires-clause-place c = place_le _ _ _ c.place_by_slot-i.ensures

pub returns : goal.returns
returns c = by_slot_lem _ _ _ _ _ _ c.place_by_slot-i.ensures c.insert.ensures
