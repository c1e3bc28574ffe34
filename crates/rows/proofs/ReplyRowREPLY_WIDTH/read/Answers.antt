-- Each field is read off the lent part where the definition reads it.
use Rattle.rows.specs.Rows.{reply_width, reply_of}
use Rattle.octets.proofs.Parts.{lent_part}
use Rattle.rows.proofs.ReplyRowREPLY_WIDTH.read.Goals as goal

pub returns : goal.returns
unfolding reply_of
returns c =
    lent_part reply_of c.args.area.now c.args.at reply_width (λ i. record {
      kind = c.get_u8.ensures i;
      cell = c.get_u16.ensures i;
      body = c.get_array.ensures i;
    })
