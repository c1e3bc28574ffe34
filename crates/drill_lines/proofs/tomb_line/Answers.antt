use Rattle.std.proofs.Common.{arith}
use Rattle.drill_lines.specs.Lines.{tomb_line}
use Rattle.drill_lines.proofs.LineLaws.{line2}
use Rattle.drill_lines.proofs.tomb_line.Goals as goal

pub returns : goal.returns
unfolding tomb_line
returns c = line2 (omega arith) c.put_tagged-p.ensures c.put_run.ensures (omega arith)
