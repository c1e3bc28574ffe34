use Rattle.std.proofs.Common.{ℕ, length, sym, ap, ◌∙◌, subst}
use Rattle.table.specs.Lists.{remove_at}
use Rattle.table.specs.Rows.{held, rows, RowsNow}
use Rattle.table.proofs.TableLaws.{table_remove}
use Rattle.table.proofs.typed.Row.remove.Goals as goal

pub returns : goal.returns
returns g c =
    let e = sym g.met.Self.Row.wide in
    let n = c.fit-n.result in
    let a = c.args.area.now in
    table_remove g.met.Self.Row.laws c.args.count n a c.remove.new.area c.remove.result (c.fit-n.ensures.is ∙ ap (λ (w : ℕ). held (length a) w c.args.count) e)
    c.args.i
    (subst (λ (w : ℕ). RowsNow w a (remove_at c.args.i (rows w n a)) c.remove.result c.remove.new.area) e c.remove.ensures)
