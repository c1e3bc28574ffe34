-- A row's tag is the 16 bytes at offset 8, so that the search of bytes is the search of rows.
use Rattle.std.proofs.Common.{refl, rules}
use Rattle.rows.specs.Rows.{tombstone_codec, tombstone_of}
use Rattle.table.proofs.FindLaws.{key_run}
use Rattle.table.proofs.TableLaws.{table_any}
use Rattle.model.specs.Tombs.{tombstoned}
use Rattle.holdings.proofs.tombstoned.Goals as goal

pub returns : goal.returns
unfolding tombstoned tombstone_of
returns c = table_any tombstone_codec _ _ _ refl _ _ (λ b. key_run 8 16 _ b (search rules)) _ c.has.ensures
