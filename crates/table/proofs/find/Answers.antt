use Rattle.std.proofs.Common.{rules}
use Rattle.table.specs.Rows.{has_key}
use Rattle.table.proofs.find.Goals as goal

pub returns : goal.returns
unfolding has_key
returns c = c.position.ensures (has_key c.args.offset c.args.key.now) (λ row b h e. search rules)
