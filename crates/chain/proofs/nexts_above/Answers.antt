use Rattle.std.proofs.Common.{rules}
use Rattle.table.specs.Rows.{all_rows}
use Rattle.chain.specs.Chain.{next_above, next}
use Rattle.chain.proofs.nexts_above.Goals as goal

pub returns : goal.returns
unfolding all_rows next
returns c = c.any.ensures next_above (λ row b h e. search rules)
