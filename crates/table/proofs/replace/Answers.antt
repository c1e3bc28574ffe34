use native.Mathlib.Omega.{arith}
use borrow.Author.Rules.{rules}
use Rattle.octets.specs.Bytes.{Bytes}
use Rattle.table.proofs.RowLaws.{row_in}
use Rattle.table.proofs.ChangeLaws.{replaced}
use Rattle.table.proofs.replace.Goals as goal

pub overflow_mul-i : goal.overflow_mul-i
overflow_mul-i c = omega (arith, row_in c.args.i c.args.n c.args.width c.requires.0)

pub copy_in-requires : goal.copy_in-requires
copy_in-requires c = omega (arith, row_in c.args.i c.args.n c.args.width c.requires.0)

pub returns : goal.returns
unfolding Bytes
returns c =
    let b : Bytes c.args.area.now = λ i. search rules in
    replaced _ c.args.n _ b c.requires.1.0 _ _ c.args.i c.requires.0 c.requires.1.1 c.copy_in.ensures
