-- The counts are those that the call says. Assumes nothing.
use Rattle.model.specs.Areas.{no_areas}
use Rattle.std.proofs.Common.{ℕ, ap, arith, length}
use Rattle.table.specs.Rows.{held}
use Rattle.table.specs.Codec.{table_of}
use Rattle.rows.specs.Rows.{reply_width, reply_codec, action_width, action_codec}
use Rattle.text.proofs.TextLaws.{puts_then, puts_within}
use Rattle.drill_lines.specs.Lines.{record_lines, held_view, last_by}
use Rattle.drill_lines.proofs.LineLaws.{puts_as}
use Rattle.drill_lines.proofs.record_lines.Goals as goal

pub put_lines-p-requires-2 : goal.put_lines-p-requires-2
put_lines-p-requires-2 c =
    let q = c.put_lines-p.ensures no_areas in
    let acted = ap (λ (p : ℕ × ℕ). held (length c.args.actions.now) action_width p.0) c.counts-acted.ensures in
    let replied = ap (λ (p : ℕ × ℕ). held (length c.args.replies.now) reply_width p.1) c.counts-acted.ensures in
    (omega arith, omega (arith, c.requires, q.next, q.near, acted, replied))

pub last_line-requires : goal.last_line-requires
last_line-requires c =
    let q = c.put_lines-p.ensures no_areas in
    let r = c.put_lines-p-2.ensures no_areas in
    let acted = ap (λ (p : ℕ × ℕ). held (length c.args.actions.now) action_width p.0) c.counts-acted.ensures in
    let replied = ap (λ (p : ℕ × ℕ). held (length c.args.replies.now) reply_width p.1) c.counts-acted.ensures in
    omega (arith, c.requires, q.next, q.near, r.next, r.near, acted, replied)

pub returns : goal.returns
unfolding record_lines
returns c =
    let e = c.counts-acted.ensures in
    let acted = ap (λ (p : ℕ × ℕ). held (length c.args.actions.now) action_width p.0) e in
    let replied = ap (λ (p : ℕ × ℕ). held (length c.args.replies.now) reply_width p.1) e in
    λ a. puts_within (omega (arith, acted, replied))
    (puts_as (λ i. record_lines (held_view c.args.kept a) (table_of action_codec (e i).0 c.args.actions.now) (table_of reply_codec (e i).1 c.args.replies.now) (last_by c.args.said))
    (puts_then (puts_then (c.put_lines-p.ensures a) (c.put_lines-p-2.ensures a) (omega (arith, c.requires, acted, replied))) c.last_line.ensures (omega (arith, c.requires, acted, replied))))
