-- Each field is read off the lent part where the definition reads it.
use Rattle.rows.specs.Rows.{tombstone_width, tombstone_of}
use Rattle.octets.proofs.Parts.{lent_part}
use Rattle.rows.proofs.TombstoneRowTOMBSTONE_WIDTH.read.Goals as goal

pub returns : goal.returns
unfolding tombstone_of
returns c =
    lent_part tombstone_of c.args.area.now c.args.at tombstone_width (λ i. record {
      slot = c.get_u64.ensures i;
      tag = c.get_array.ensures i;
      s = c.get_array-2.ensures i;
      expiry_min = c.get_u32.ensures i;
    })
