use Rattle.std.proofs.Common.{ap, ◌∙◌}
use Rattle.table.specs.Lists.{is_at}
use Rattle.table.proofs.FindLaws.{position_any}
use Rattle.table.proofs.lent.Table.has.Goals as goal

pub returns : goal.returns
returns g c = c.is_some.ensures ∙ ap is_at c.find.ensures ∙ position_any _ 0 _
