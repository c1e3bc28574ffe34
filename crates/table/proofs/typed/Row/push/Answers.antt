use Rattle.std.proofs.Common.{ℕ, [], ◌∷◌, ◌++◌, length, sym, ap, ◌∙◌, subst}
use Rattle.table.specs.Rows.{held, rows, RowsNow}
use Rattle.table.proofs.TableLaws.{table_push}
use Rattle.table.proofs.typed.Row.push.Goals as goal

pub returns : goal.returns
returns g c =
    let e = sym g.met.Self.Row.wide in
    let n = c.fit-n.result in
    let a = c.args.area.now in
    table_push g.met.Self.Row.laws c.args.count n a c.push.new.area c.push.result (c.fit-n.ensures.is ∙ ap (λ (w : ℕ). held (length a) w c.args.count) e)
    c.bytes.result c.args.row c.bytes.ensures.proper c.bytes.ensures.value
    (subst (λ (w : ℕ). RowsNow w a (rows w n a ++ (c.bytes.result ∷ [])) c.push.result c.push.new.area) e c.push.ensures)
