-- The tomb of the tombstone that is found is written, and nothing where there is none.
use Rattle.std.proofs.Common.{arith, rules}
use Rattle.inventory.proofs.ListedLaws.{tomb_none, tomb_row, tomb_put}
use Rattle.inventory.proofs.push_tomb.Goals as goal

pub overflow_mul-j : goal.overflow_mul-j
overflow_mul-j c = omega (arith, tomb_row _ _ _ (search rules) _ c.find.ensures c.in-Some.is)

pub read-row-requires : goal.read-row-requires
read-row-requires c = tomb_row _ _ _ (search rules) _ c.find.ensures c.in-Some.is

pub returns-in-Some : goal.returns-in-Some
returns-in-Some c =
    (tomb_put _ _ _ (search rules) _ c.find.ensures c.args.replies.now _ c.in-Some.is c.read-row.ensures (search rules) (search rules) c.requires c.put_tomb.ensures, omega arith)

pub returns-in-None : goal.returns-in-None
returns-in-None c = (tomb_none _ _ _ (search rules) _ c.find.ensures c.args.replies.now _ c.in-None.is, omega arith)
