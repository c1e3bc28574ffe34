-- `load_record`: by what `decode` says of the blob; it says none of no record that was tested. Assumes nothing.
use Rattle.std.proofs.Common.{Some, ap, ◌∙◌, arith, rules}
use Rattle.rows.proofs.Laws.{tombstone_laws}
use Rattle.load_tests.proofs.BlobLaws.{read_lent}
use Rattle.load.specs.Load.{tombstone_slot}
use Rattle.load.proofs.InsertLaws.{inserted_by, tombstone_starts}
use Rattle.load.proofs.LoadLaws.{some_kind, carried_room, loads_carried, tombstone_room, loads_tombstone}
use Rattle.load.proofs.load_record.Goals as goal

pub load_carried-counts-requires : goal.load_carried-counts-requires
load_carried-counts-requires c =
    carried_room _ _ _ _ _ c.requires (read_lent _ c.decode.ensures (c.in-Some-Carried.is ∙ ap Some c.in-Some-Carried.field-0-is))

pub insert_row-counts-requires : goal.insert_row-counts-requires
insert_row-counts-requires c =
    let r = tombstone_room _ _ _ _ _ c.requires (read_lent _ c.decode.ensures (c.in-Some-Tombstone.is ∙ ap Some c.in-Some-Tombstone.field-0-is)) in
    (omega arith, ((omega arith, r.1), r.0))

pub returns-in-None : goal.returns-in-None
returns-in-None c = absurd (some_kind _ c.requires.kind (read_lent _ c.decode.ensures c.in-None.is))

pub returns-in-Some-Carried : goal.returns-in-Some-Carried
returns-in-Some-Carried c =
    loads_carried _ _ _ _ _ c.requires (read_lent _ c.decode.ensures (c.in-Some-Carried.is ∙ ap Some c.in-Some-Carried.field-0-is)) _ _ _
    c.load_carried-counts.ensures (search rules) (search rules)

pub returns-in-Some-Tombstone : goal.returns-in-Some-Tombstone
returns-in-Some-Tombstone c =
    let q = read_lent _ c.decode.ensures (c.in-Some-Tombstone.is ∙ ap Some c.in-Some-Tombstone.field-0-is) in
    loads_tombstone _ _ _ _ _ c.requires q _ _ _ _ c.get_u64.ensures c.tombstone_of-new.ensures
    (inserted_by tombstone_laws tombstone_slot tombstone_starts _ _ _ _ _ _ (tombstone_room _ _ _ _ _ c.requires q).0 c.bytes.ensures.proper c.bytes.ensures.value
    c.insert_row-counts.ensures) (search rules)
