-- Each field is read off the lent part where the definition reads it.
use Rattle.rows.specs.Rows.{action_width, action_of}
use Rattle.octets.proofs.Parts.{lent_part}
use Rattle.rows.proofs.ActionRowACTION_WIDTH.read.Goals as goal

pub returns : goal.returns
unfolding action_of
returns c =
    lent_part action_of c.args.area.now c.args.at action_width (λ i. record {
      kind = c.get_u8.ensures i;
      number = c.get_u64.ensures i;
      msgno = c.get_u32.ensures i;
    })
