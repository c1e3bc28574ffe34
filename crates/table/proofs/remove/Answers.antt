use mathlib.Core.Path.{refl}
use native.Mathlib.Omega.{arith}
use borrow.Author.Rules.{rules}
use Rattle.octets.specs.Bytes.{Bytes}
use Rattle.table.proofs.RowLaws.{row_in}
use Rattle.table.proofs.ChangeLaws.{removed}
use Rattle.table.proofs.remove.Goals as goal

pub overflow_mul-at : goal.overflow_mul-at
overflow_mul-at c = omega (arith, (row_in c.args.i c.args.n c.args.width c.requires.0))

pub overflow_add-at : goal.overflow_add-at
overflow_add-at c = omega (arith, (row_in c.args.i c.args.n c.args.width c.requires.0))

pub overflow_sub-end : goal.overflow_sub-end
overflow_sub-end c = omega (arith, (row_in c.args.i c.args.n c.args.width c.requires.0))

pub overflow_sub-end-2 : goal.overflow_sub-end-2
overflow_sub-end-2 c = omega (arith, (row_in c.args.i c.args.n c.args.width c.requires.0))

pub move_down-requires : goal.move_down-requires
move_down-requires c = omega (arith, (row_in c.args.i c.args.n c.args.width c.requires.0))

pub returns : goal.returns
unfolding Bytes
returns c =
    let b : Bytes c.args.area.now = λ i. search rules in
    removed _ c.args.n _ b c.requires.1 _ c.args.i _ c.requires.0 refl c.move_down.ensures
