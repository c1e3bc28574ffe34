-- Each field is read off the lent part where the definition reads it.
use Rattle.rows.specs.Rows.{reachable_width, reachable_of}
use Rattle.octets.proofs.Parts.{lent_part}
use Rattle.rows.proofs.ReachableRowREACHABLE_WIDTH.read.Goals as goal

pub returns : goal.returns
unfolding reachable_of
returns c =
    lent_part reachable_of c.args.area.now c.args.at reachable_width (λ i. record {
      contact = record { 0 = c.get_u64.ensures i };
      dir = c.get_u8.ensures i;
      generation = c.get_u8-2.ensures i;
      idx = c.get_u32.ensures i;
      tag = c.get_array.ensures i;
    })
