-- A row's tag is the 16 bytes at offset 16, so that the search of bytes is the search of rows.
use Rattle.rows.specs.Rows.{carried_codec, carried_of}
use Rattle.table.proofs.TableLaws.{table_find}
use Rattle.table.proofs.FindLaws.{key_run}
use Rattle.std.proofs.Common.{refl, rules}
use Rattle.holdings.proofs.carried_of_tag.Goals as goal

pub returns : goal.returns
unfolding carried_of
returns c = table_find carried_codec _ _ _ refl _ _ (λ b. key_run 16 16 _ b (search rules)) _ c.find.ensures
