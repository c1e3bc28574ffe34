-- The reply is that of the row with half of its copies, and so is the offer.
use Rattle.offers.proofs.OfferLaws.{handed}
use Rattle.std.proofs.Common.{rules}
use Rattle.offers.proofs.offer_row.Goals as goal

pub returns-clause-offer : goal.returns-clause-offer
returns-clause-offer c =
    handed _ _ c.offered_at-it.ensures _ _ _ _ _ _ _ (search rules) (search rules) c.put_envelope.ensures c.insert_offer.ensures
