use Rattle.std.proofs.Common.{le-ltb, rules}
use Rattle.table.specs.Rows.{all_rows, ragged}
use Rattle.chain.specs.Chain.{wrong_dir, wrong_table}
use Rattle.chain.proofs.wrong_table.Goals as goal

pub returns-else-area-width-gt0 : goal.returns-else-area-width-gt0
unfolding wrong_table ragged all_rows
returns-else-area-width-gt0 c = simp (le-ltb _ _ c.if-area-width-gt0.false) (c.any.ensures wrong_dir (λ row b h e. search rules))
