-- `holdings::is_bad`: a test of the rows of bytes is the same test of the typed rows. Assumes nothing.
use Rattle.std.proofs.Common.{refl, rules}
use Rattle.rows.specs.Rows.{bad_tag_codec, bad_tag_of}
use Rattle.model.specs.Window.{is_bad}
use Rattle.table.proofs.TableLaws.{table_any}
use Rattle.holdings.proofs.is_bad.Goals as goal

pub returns : goal.returns
unfolding is_bad bad_tag_of
returns c = table_any bad_tag_codec _ _ _ refl _ _ (λ b. refl) _ (c.any.ensures _ (λ row b h e. search rules))
