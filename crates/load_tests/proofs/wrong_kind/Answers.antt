-- `wrong_kind`: by what `decode` says of the blob. Assumes nothing.
use Rattle.std.proofs.Common.{not, Some, None, ap, ◌∙◌}
use Rattle.load_tests.proofs.BlobLaws.{kind_tested, read_lent}
use Rattle.load_tests.proofs.wrong_kind.Goals as goal

pub returns-in-None : goal.returns-in-None
returns-in-None c = kind_tested c.args.record.now None (read_lent _ c.decode.ensures c.in-None.is)

pub returns-in-Some-Carried : goal.returns-in-Some-Carried
returns-in-Some-Carried c =
    ap not c.has_key.ensures
    ∙ kind_tested c.args.record.now _ (read_lent _ c.decode.ensures (c.in-Some-Carried.is ∙ ap Some c.in-Some-Carried.field-0-is))

pub returns-in-Some-Tombstone : goal.returns-in-Some-Tombstone
returns-in-Some-Tombstone c =
    ap not c.has_key-in-Some-Tombstone.ensures
    ∙ kind_tested c.args.record.now _ (read_lent _ c.decode.ensures (c.in-Some-Tombstone.is ∙ ap Some c.in-Some-Tombstone.field-0-is))
