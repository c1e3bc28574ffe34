use Rattle.std.proofs.Common.{arith}
use Rattle.rows.specs.Rows.{own_codec}
use Rattle.own_envelope.proofs.WalkLaws.{place_row, place_past}
use Rattle.own_envelope.proofs.OwnLaws.{place_at, place_behind}
use Rattle.own_envelope.proofs.own_place.Goals as goal

pub returns-then-stands_after : goal.returns-then-stands_after
returns-then-stands_after c =
    place_at _ _ _ _ _ _ (place_row own_codec _ _ _ _ (omega (arith, c.len-n.ensures.is)) c.read-row.ensures c.stands_after.ensures c.if-stands_after.true c.loop-i.invariant.1)

pub loop-i-preserved : goal.loop-i-preserved
loop-i-preserved c = (
  omega arith,
  place_row own_codec _ _ _ c.loop-i.i (omega (arith, c.len-n.ensures.is)) c.read-row.ensures c.stands_after.ensures
      c.if-stands_after.false c.loop-i.invariant.1,
)

pub returns : goal.returns
returns c =
    place_behind _ _ _ _ _ _ c.len-n.ensures.is (place_past own_codec _ _ _ c.loop-i.i (omega (arith, c.len-n.ensures.is)) c.loop-i.invariant.1)
