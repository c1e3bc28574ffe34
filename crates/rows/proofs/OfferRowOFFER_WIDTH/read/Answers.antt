-- Each field is read off the lent part where the definition reads it.
use Rattle.rows.specs.Rows.{offer_width, offer_of}
use Rattle.octets.proofs.Parts.{lent_part}
use Rattle.rows.proofs.OfferRowOFFER_WIDTH.read.Goals as goal

pub returns : goal.returns
unfolding offer_of
returns c =
    lent_part offer_of c.args.area.now c.args.at offer_width (λ i. record {
      tag = c.get_array.ensures i;
      copies = c.get_u8.ensures i;
    })
