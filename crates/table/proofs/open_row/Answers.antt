use Rattle.std.proofs.Common.{mul-le-mul_right}
use native.Mathlib.Omega.{arith}
use Rattle.table.proofs.open_row.Goals as goal

pub overflow_mul-at : goal.overflow_mul-at
overflow_mul-at c = omega (arith, mul-le-mul_right c.args.width c.requires.0)

pub overflow_add-at : goal.overflow_add-at
overflow_add-at c = omega (arith, mul-le-mul_right c.args.width c.requires.0)

pub overflow_sub-end : goal.overflow_sub-end
overflow_sub-end c = omega (arith, mul-le-mul_right c.args.width c.requires.0)

pub move_up-requires : goal.move_up-requires
move_up-requires c = omega (arith, mul-le-mul_right c.args.width c.requires.0)
