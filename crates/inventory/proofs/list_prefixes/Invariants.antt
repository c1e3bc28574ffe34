-- The rows seen so far have their prefixes written.
use Rattle.inventory.proofs.OursLaws.{Listing}
use Rattle.inventory.proofs.list_prefixes.Given as goal

abbrev pub invariant-loop-i : goal.invariant-loop-i
invariant-loop-i l = Listing l.peer l.held l.initial.prefixes l.i l.k l.prefixes
