-- The place of the tag, or the end.
use Rattle.std.proofs.Common.{sym, arith, rules}
use Rattle.offers.proofs.OfferLaws.{offer_inside, offer_replaced, offer_pushed}
use Rattle.offers.proofs.insert_offer.Goals as goal

pub replace-requires : goal.replace-requires
replace-requires c =
    (offer_inside _ c.args.offers.now _ _ c.bytes-b.ensures.proper c.requires _ c.find.ensures (sym c.in-Some.is), (omega arith, search rules))

pub returns-in-Some : goal.returns-in-Some
returns-in-Some c =
    offer_replaced _ _ _ _ c.bytes-b.ensures.proper c.requires _ c.find.ensures (sym c.in-Some.is) c.bytes-b.ensures.value c.replace.ensures c.replace.auto.area

pub returns-in-None : goal.returns-in-None
returns-in-None c =
    offer_pushed _ _ _ _ c.bytes-b.ensures.proper c.requires _ c.find.ensures (sym c.in-None.is) c.bytes-b.ensures.value c.push.ensures c.push.auto.area
