-- A row that may go to the peer has its prefix written.
use Rattle.std.proofs.Common.{◌≡◌, length, arith, rules}
use Rattle.inventory.proofs.OursLaws.{prefix_put, prefix_none}
use Rattle.inventory.proofs.push_prefix.Goals as goal

pub returns-in-Some : goal.returns-in-Some
returns-in-Some c =
    let room : length c.in-Some.row.tag ≡ 16 = search rules in
    (prefix_put _ _ _ c.in-Some.is room c.requires c.copy_in.ensures, omega arith)

pub returns-in-None : goal.returns-in-None
returns-in-None c = (prefix_none c.args.prefixes.now _ c.in-None.is, omega arith)
