-- The prefixes seen so far have their fetches written.
use Rattle.inventory.specs.Inventory.{fetches}
use Rattle.inventory.proofs.ListedLaws.{Replying}
use Rattle.inventory.proofs.push_fetches.Given as goal

abbrev pub invariant-loop-i : goal.invariant-loop-i
invariant-loop-i l = Replying l.listed.area.now l.listed.n (fetches l.lookup) l.initial.replies 0 l.i l.k l.replies
