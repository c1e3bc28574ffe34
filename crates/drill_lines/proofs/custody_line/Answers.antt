use Rattle.std.proofs.Common.{arith}
use Rattle.drill_lines.specs.Lines.{custody_line}
use Rattle.drill_lines.proofs.LineLaws.{line3}
use Rattle.drill_lines.proofs.custody_line.Goals as goal

pub returns : goal.returns
unfolding custody_line
returns c = line3 (omega arith) c.put_tagged-p.ensures c.put_spaced-p.ensures c.put_run.ensures (omega arith)
