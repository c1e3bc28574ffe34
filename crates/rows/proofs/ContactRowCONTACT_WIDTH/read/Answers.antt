-- Each field is read off the lent part where the definition reads it.
use Rattle.rows.specs.Rows.{contact_width, contact_of}
use Rattle.octets.proofs.Parts.{lent_part}
use Rattle.rows.proofs.ContactRowCONTACT_WIDTH.read.Goals as goal

pub returns : goal.returns
unfolding contact_of
returns c =
    lent_part contact_of c.args.area.now c.args.at contact_width (λ i. record {
      id = record { 0 = c.get_u64.ensures i };
      verification = c.get_u8.ensures i;
    })
