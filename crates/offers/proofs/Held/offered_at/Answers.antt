-- Its header with half of the copies, by its kind.
use Rattle.std.proofs.Common.{◌∙◌, ap}
use Rattle.model.specs.Exchange.{own_envelope_of, carried_envelope_of}
use Rattle.offers.specs.Offers.{offered_of}
use Rattle.offers.proofs.EntryLaws.{of_own, of_carried}
use Rattle.offers.proofs.OfferLaws.{offer_made}
use Rattle.offers.proofs.Held.offered_at.Goals as goal

pub returns-in-Own : goal.returns-in-Own
unfolding own_envelope_of
returns-in-Own c =
    offer_made (own_envelope_of c.in-Own.row) c.own_cell.ensures c.own_header.ensures c.with_half_the_copies.ensures
    ∙ ap offered_of (of_own own_envelope_of carried_envelope_of _ _ _ _ c.in-Own.is c.at.ensures)

pub returns-in-Carried : goal.returns-in-Carried
unfolding carried_envelope_of
returns-in-Carried c =
    offer_made (carried_envelope_of c.in-Carried.row) c.carried_cell.ensures c.carried_header.ensures c.with_half_the_copies-in-Carried.ensures
    ∙ ap offered_of (of_carried own_envelope_of carried_envelope_of _ _ _ _ c.in-Carried.is c.at.ensures)
