use Rattle.std.proofs.Common.{sym, ap, ◌∙◌, arith}
use Rattle.drill_lines.specs.Lines.{last_line, last_by, refused_line}
use Rattle.drill_lines.proofs.LineLaws.{puts_as, line3}
use Rattle.drill_lines.proofs.last_line.Goals as goal

pub returns-in-Err : goal.returns-in-Err
unfolding refused_line
returns-in-Err c = puts_as (ap refused_line c.number.ensures ∙ ap (λ x. last_line (last_by x)) (sym c.in-Err.is)) (line3 c.requires c.put_run-p.ensures c.put_spaced-p.ensures c.put_run-in-Err.ensures (omega arith))
