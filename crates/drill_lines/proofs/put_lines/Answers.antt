use Rattle.model.specs.Areas.{no_areas}
use Rattle.std.proofs.Common.{refl, sym, ap, arith, rules, length}
use Rattle.drill_lines.specs.Lines.{held_view}
use Rattle.table.specs.Rows.{held}
use Rattle.drill_lines.proofs.LineLaws.{lines_none, lines_more, lines_all}
use Rattle.drill_lines.proofs.put_lines.Goals as goal

pub loop-i-init : goal.loop-i-init
loop-i-init g c = (refl, λ a. lines_none g.R.Row.codec (g.R.Listed.line (held_view c.args.kept a)) c.args.listed.count c.args.listed.area.now _ _)

pub put_text-p-requires : goal.put_text-p-requires
put_text-p-requires g c =
    let q = c.loop-i.invariant.1 no_areas in
    let w = ap (λ n. held (length c.args.listed.area.now) n c.args.listed.count) g.met.R.Row.wide in
    omega (arith, c.requires, c.len-i-end.ensures.is, c.loop-i.invariant.0, c.loop-i-test.true, q.next, q.near, w)

pub loop-i-preserved : goal.loop-i-preserved
loop-i-preserved g c =
    let w = ap (λ n. held (length c.args.listed.area.now) n c.args.listed.count) g.met.R.Row.wide in (
      search rules,
      λ a. lines_more g.R.Row.codec (g.R.Listed.line (held_view c.args.kept a)) _ _ _ c.loop-i.i _ (sym g.met.R.Row.wide) (omega (arith, c.len-i-end.ensures.is, c.loop-i-test.true)) c.read.ensures
          (omega (arith, c.requires, c.len-i-end.ensures.is, c.loop-i-test.true, w)) (c.loop-i.invariant.1 a) (c.put_text-p.ensures a),
    )

pub returns : goal.returns
returns g c =
    let w = ap (λ n. held (length c.args.listed.area.now) n c.args.listed.count) g.met.R.Row.wide in
    λ a. lines_all g.R.Row.codec (g.R.Listed.line (held_view c.args.kept a)) _ _ _ c.loop-i.i (sym g.met.R.Row.wide) (omega (arith, c.len-i-end.ensures.is, c.loop-i-test.false)) (omega (arith, c.len-i-end.ensures.is, w)) (c.loop-i.invariant.1 a)
