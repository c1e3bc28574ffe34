-- A tag's fetch is written, and nothing where there is none.
use Rattle.std.proofs.Common.{arith, rules}
use Rattle.offers.proofs.AppendLaws.{append_none}
use Rattle.inventory.proofs.ListedLaws.{fetch_put}
use Rattle.inventory.proofs.push_fetch.Goals as goal

pub returns-in-Some : goal.returns-in-Some
returns-in-Some c = (rw c.in-Some.is (fetch_put c.args.replies.now _ _ _ (search rules) c.requires c.put_fetch.ensures), omega arith)

pub returns-in-None : goal.returns-in-None
returns-in-None c = (rw c.in-None.is (append_none 40 c.args.replies.now c.args.k), omega arith)
