use Rattle.std.proofs.Common.{ap, ◌∙◌, arith, rules}
use Rattle.drill_lines.specs.Lines.{envelope_line, custody_line, tomb_line}
use Rattle.text.proofs.TextLaws.{puts_within, puts_none}
use Rattle.drill_lines.proofs.LineLaws.{puts_as, line_envelope, line_custody, line_tomb, line_fetch}
use Rattle.drill_lines.proofs.ReplyListedREPLY_WIDTH.put_text.Goals as goal

pub returns-in-1 : goal.returns-in-1
returns-in-1 c = λ a. puts_as ((λ i. envelope_line (c.get_array-tag.ensures i) (c.get_u32-expiry.ensures i) (c.get_u8-copies.ensures i)) ∙ line_envelope c.args.self c.in-1.is) c.envelope_line.ensures

pub returns-in-2 : goal.returns-in-2
returns-in-2 c = λ a. puts_as ((λ i. custody_line (c.get_array-tag.ensures i) (c.get_u8.ensures i)) ∙ line_custody c.args.self c.in-2.is) c.custody_line.ensures

pub returns-in-3 : goal.returns-in-3
returns-in-3 c = λ a. puts_as (ap tomb_line c.get_array-tag.ensures ∙ line_tomb c.args.self c.in-3.is) c.tomb_line.ensures

pub returns-in_default : goal.returns-in_default
returns-in_default c = λ a. puts_as (line_fetch c.args.self (search rules) (search rules) (search rules)) (puts_within (omega arith) (puts_none _ _))
