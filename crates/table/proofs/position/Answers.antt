use Rattle.std.proofs.Common.{sym, ◌∙◌, arith}
use Rattle.octets.specs.Bytes.{part}
use Rattle.table.proofs.RowLaws.{row_at, length_row}
use Rattle.table.proofs.FindLaws.{row_next, rows_end}
use Rattle.table.proofs.position.Goals as goal

pub returns-then-test : goal.returns-then-test
unfolding part
returns-then-test g c = λ p t.
    let a = c.args.area.now in
    let w = c.args.width in
    let i = c.loop-i.i in
    let b = t _ _ (length_row a w i _ c.loop-i-test.true c.requires.fits) c.test.ensures in
    sym (c.loop-i.invariant p t ∙ row_next w c.args.n a p i c.loop-i-test.true _ (row_at a w i c.args.n) _ b c.if-test.true)

pub loop-i-preserved : goal.loop-i-preserved
unfolding part
loop-i-preserved g c = λ p t.
    let a = c.args.area.now in
    let w = c.args.width in
    let i = c.loop-i.i in
    let b = t _ _ (length_row a w i _ c.loop-i-test.true c.requires.fits) c.test.ensures in
    c.loop-i.invariant p t ∙ row_next w c.args.n a p i c.loop-i-test.true _ (row_at a w i c.args.n) _ b c.if-test.false

pub returns : goal.returns
returns g c = λ p t. sym (c.loop-i.invariant p t ∙ rows_end c.args.width c.args.n c.args.area.now p c.loop-i.i (omega arith))
