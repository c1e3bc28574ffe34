-- What `Held::row` makes of the row.
use Rattle.std.proofs.Common.{refl, rules}
use Rattle.saved.proofs.BlobLaws.{tombstone_blobbed}
use Rattle.saved.proofs.TombstoneSaved.blob.Goals as goal

pub returns : goal.returns
returns c =
    tombstone_blobbed _ (search rules, search rules) _ _ _ _ _ c.requires refl c.tombstone_row.ensures c.unwrap.ensures
