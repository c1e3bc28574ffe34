use Rattle.std.proofs.Common.{ap, ◌∙◌, arith, rules}
use Rattle.drill_lines.specs.Lines.{put_line, held_view, blob_length}
use Rattle.text.proofs.TextLaws.{puts_within, puts_none}
use Rattle.drill_lines.proofs.LineLaws.{puts_as, line_put, line_del, line_own}
use Rattle.drill_lines.proofs.ActionListedACTION_WIDTH.put_text.Goals as goal

pub returns-in-0 : goal.returns-in-0
returns-in-0 c = λ a. puts_as (ap (put_line c.args.self.number) (c.blob_length.ensures a) ∙ line_put (blob_length (held_view c.args.kept a)) c.args.self c.in-0.is) c.put_line.ensures

pub returns-in-1 : goal.returns-in-1
returns-in-1 c = λ a. puts_as (line_del (blob_length (held_view c.args.kept a)) c.args.self c.in-1.is) c.del_line.ensures

pub returns-in_default : goal.returns-in_default
returns-in_default c = λ a. puts_as (line_own (blob_length (held_view c.args.kept a)) c.args.self (search rules) (search rules)) (puts_within (omega arith) (puts_none _ _))
