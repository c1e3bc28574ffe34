use Rattle.std.proofs.Common.{arith}
use Rattle.own_envelope.proofs.OwnLaws.{first_by, first_inside}
use Rattle.own_envelope.proofs.place_from.Goals as goal

pub returns-then-get_u64-id : goal.returns-then-get_u64-id
returns-then-get_u64-id c =
    first_by _ _ _ (omega (arith, c.len-n.ensures.is)) c.get_u64.ensures c.if-get_u64-id.true

pub returns : goal.returns
returns c = first_inside _ _ _ c.len-n.ensures.is
