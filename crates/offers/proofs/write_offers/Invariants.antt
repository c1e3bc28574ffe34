-- The rows seen so far are written if they are flagged.
use Rattle.offers.proofs.WritingLaws.{Offering}
use Rattle.offers.proofs.write_offers.Given as goal

abbrev pub invariant-loop-i : goal.invariant-loop-i
invariant-loop-i l =
    Offering l.held l.flags l.initial.replies l.first l.initial.offers l.i
    l.sent.replies l.sent.offers l.replies l.offers
