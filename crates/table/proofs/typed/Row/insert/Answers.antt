use Rattle.std.proofs.Common.{ℕ, length, sym, ap, ◌∙◌, subst}
use Rattle.table.specs.Lists.{insert_at}
use Rattle.table.specs.Rows.{held, rows, RowsNow}
use Rattle.table.proofs.TableLaws.{table_insert}
use Rattle.table.proofs.typed.Row.insert.Goals as goal

pub returns : goal.returns
returns g c =
    let e = sym g.met.Self.Row.wide in
    let n = c.fit-n.result in
    let a = c.args.area.now in
    table_insert g.met.Self.Row.laws c.args.count n a c.insert.new.area c.insert.result (c.fit-n.ensures.is ∙ ap (λ (w : ℕ). held (length a) w c.args.count) e)
    c.bytes.result c.args.i c.args.row c.bytes.ensures.proper c.bytes.ensures.value
    (subst (λ (w : ℕ). RowsNow w a (insert_at c.args.i c.bytes.result (rows w n a)) c.insert.result c.insert.new.area) e c.insert.ensures)
