use mathlib.Core.Path.{refl}
use native.Mathlib.Nat.{mul-le-mul_right, le-mul_of_pos_right}
use native.Mathlib.Omega.{arith}
use borrow.Author.Rules.{rules}
use Rattle.octets.specs.Bytes.{Bytes}
use Rattle.table.proofs.ChangeLaws.{inserted}
use Rattle.table.proofs.insert.Goals as goal

pub overflow_mul-i : goal.overflow_mul-i
overflow_mul-i c = omega (arith, mul-le-mul_right c.args.width c.requires.1.0)

pub copy_in-requires : goal.copy_in-requires
copy_in-requires c = omega (arith, mul-le-mul_right c.args.width c.requires.1.0)

pub overflow_add-result : goal.overflow_add-result
overflow_add-result c =
    omega (arith, le-mul_of_pos_right c.args.n c.requires.0)

pub returns : goal.returns
unfolding Bytes
returns c =
    let b : Bytes c.args.area.now = λ i. search rules in
    inserted _ c.args.n _ b (omega arith) _ _ _ c.args.i _ c.requires.1.0 c.requires.1.1.0 c.requires.1.1.1 refl c.open_row.ensures c.copy_in.ensures
