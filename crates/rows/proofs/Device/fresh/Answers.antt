-- Each field is what the derived default gives.
use Rattle.rows.proofs.Device.fresh.Goals as goal

pub returns : goal.returns
returns c =
    let e = c.default.ensures in
    λ i. record {
      courier = e.0 i;
      now_s = e.1.0 i;
      contacts = e.1.1.0 i;
      own = e.1.1.1.0 i;
      carried = e.1.1.1.1.0 i;
      tombstones = e.1.1.1.1.1.0 i;
      bad_tags = e.1.1.1.1.1.1.0 i;
      next_slot = e.1.1.1.1.1.1.1 i;
    }
