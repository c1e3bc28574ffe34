use Rattle.std.proofs.Common.{ap, ◌∙◌}
use Rattle.table.specs.Lists.{is_at}
use Rattle.table.specs.Rows.{rows}
use Rattle.table.proofs.FindLaws.{position_any}
use Rattle.table.proofs.any.Goals as goal

pub returns : goal.returns
returns g c = λ p t.
    c.is_some.ensures ∙ ap is_at (c.position.ensures p t) ∙ position_any p 0 (rows c.args.width c.args.n c.args.area.now)
