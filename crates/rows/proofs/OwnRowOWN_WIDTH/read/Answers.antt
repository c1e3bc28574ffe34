-- Each field is read off the lent part where the definition reads it.
use Rattle.rows.specs.Rows.{own_width, own_of}
use Rattle.octets.proofs.Parts.{lent_part}
use Rattle.rows.proofs.OwnRowOWN_WIDTH.read.Goals as goal

pub returns : goal.returns
unfolding own_of
returns c =
    lent_part own_of c.args.area.now c.args.at own_width (λ i. record {
      contact = record { 0 = c.get_u64.ensures i };
      msgno = c.get_u32.ensures i;
      tag = c.get_array.ensures i;
      s = c.get_array-2.ensures i;
      expiry_min = c.get_u32-2.ensures i;
      copies = c.get_u8.ensures i;
      renewed = c.get_u8-2.ensures i;
      len = c.get_u16.ensures i;
      cell = c.get_u16-2.ensures i;
    })
