-- Each field is read off the lent part where the definition reads it.
use Rattle.rows.specs.Rows.{carried_width, carried_of}
use Rattle.octets.proofs.Parts.{lent_part}
use Rattle.rows.proofs.CarriedRowCARRIED_WIDTH.read.Goals as goal

pub returns : goal.returns
unfolding carried_of
returns c =
    lent_part carried_of c.args.area.now c.args.at carried_width (λ i. record {
      slot = c.get_u64.ensures i;
      depositor = record { 0 = c.get_u64-2.ensures i };
      tag = c.get_array.ensures i;
      c = c.get_array-2.ensures i;
      expiry_min = c.get_u32.ensures i;
      copies = c.get_u8.ensures i;
      len = c.get_u16.ensures i;
      cell = c.get_u16-2.ensures i;
    })
