-- `load_carried`: the row, and its ciphertext in its cell. Assumes nothing.
use Rattle.rows.proofs.Laws.{carried_laws}
use Rattle.load.specs.Load.{carried_slot}
use Rattle.load.proofs.InsertLaws.{inserted_by, carried_starts, carries}
use Rattle.load.proofs.load_carried.Goals as goal

pub returns : goal.returns
returns c =
    carries _ _ _ _ _ _ _ _ c.get_u64-slot.ensures c.carried_of-new.ensures c.copy_in.ensures
    (inserted_by carried_laws carried_slot carried_starts _ _ _ _ _ _ c.requires.1.1.0.0 c.bytes.ensures.proper c.bytes.ensures.value c.insert_row.ensures)
