-- A row's tag is its first 16 bytes, so that the search of bytes is the search of rows.
use Rattle.rows.specs.Rows.{offer_codec, offer_of}
use Rattle.table.proofs.TableLaws.{table_find}
use Rattle.table.proofs.FindLaws.{key_run}
use Rattle.std.proofs.Common.{refl, rules}
use Rattle.handover.proofs.offer_of_tag.Goals as goal

pub returns : goal.returns
unfolding offer_of
returns c =
    table_find offer_codec _ _ _ refl _ _ (λ b. key_run 0 16 _ b (search rules)) _ c.find.ensures
