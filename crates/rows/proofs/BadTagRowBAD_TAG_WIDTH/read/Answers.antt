-- Each field is read off the lent part where the definition reads it.
use Rattle.rows.specs.Rows.{bad_tag_width, bad_tag_of}
use Rattle.octets.proofs.Parts.{lent_part}
use Rattle.rows.proofs.BadTagRowBAD_TAG_WIDTH.read.Goals as goal

pub returns : goal.returns
unfolding bad_tag_of
returns c =
    lent_part bad_tag_of c.args.area.now c.args.at bad_tag_width (λ i. record {
      peer = record { 0 = c.get_u64.ensures i };
      tag = c.get_array.ensures i;
    })
