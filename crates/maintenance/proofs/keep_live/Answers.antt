use Rattle.std.proofs.Common.{rules}
use Rattle.maintenance.specs.Expiry.{live_row}
use Rattle.maintenance.proofs.keep_live.Goals as goal

pub returns : goal.returns
returns c = rw (← c.fit-n.ensures.is) (c.retain.ensures (live_row c.args.offset c.args.minute) (λ row b h e. search rules))
