-- `holdings::window::wrong_directions`: a test of the rows of bytes is the same test of the typed rows. Assumes nothing.
use Rattle.std.proofs.Common.{refl, rules}
use Rattle.rows.specs.Rows.{reachable_codec, reachable_of}
use Rattle.model.specs.Window.{window_rows, wrong_direction}
use Rattle.table.proofs.TableLaws.{table_any}
use Rattle.holdings.proofs.WindowLaws.{whole_rows, direction}
use Rattle.holdings.proofs.window.wrong_directions.Goals as goal

pub returns : goal.returns
unfolding window_rows wrong_direction reachable_of
returns c = table_any reachable_codec _ _ _ (whole_rows _) _ _ (λ b. refl) _ (c.any.ensures _ (λ row b h e. direction _ _ h (search rules)))
