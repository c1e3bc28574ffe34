use mathlib.Core.Path.{refl}
use native.Mathlib.Nat.{le-mul_of_pos_right}
use native.Mathlib.Omega.{arith}
use borrow.Author.Rules.{rules}
use Rattle.octets.specs.Bytes.{Bytes}
use Rattle.table.proofs.ChangeLaws.{pushed}
use Rattle.table.proofs.push.Goals as goal

pub overflow_add-result : goal.overflow_add-result
overflow_add-result c = omega (arith, le-mul_of_pos_right c.args.n c.requires.0)

pub returns : goal.returns
unfolding Bytes
returns c =
    let b : Bytes c.args.area.now = λ i. search rules in
    pushed _ c.args.n _ b (omega arith) _ _ _ c.requires.1.0 c.requires.1.1 refl c.copy_in.ensures
