use Rattle.std.proofs.Common.{arith}
use Rattle.drill_lines.specs.Lines.{put_line}
use Rattle.drill_lines.proofs.LineLaws.{line4}
use Rattle.drill_lines.proofs.put_line.Goals as goal

pub returns : goal.returns
unfolding put_line
returns c = line4 (omega arith) c.put_run-p.ensures c.put_spaced-p.ensures c.put_spaced-p-2.ensures c.put_run.ensures (omega arith)
