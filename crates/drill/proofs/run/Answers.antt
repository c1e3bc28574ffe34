use Rattle.std.proofs.Common.{◌∙◌, sym, rules}
use Rattle.drill_turn.proofs.StreamLaws.{stops_at_end}
use Rattle.drill.proofs.WrittenLaws.{sending_start, sending_on, written_end, written_stop, written_none}
use Rattle.drill.proofs.run.Goals as goal

pub loop-init : goal.loop-init
loop-init c =
    sending_start _ _ _ _ _ _ _ _ c.zeros-tables.ensures.zeros.0 c.zeros-tables.ensures.zeros.1 c.start-turn.ensures
    (search rules) (search rules) (search rules) (search rules) c.zeros-tables.ensures.sizes.0 c.zeros-tables.ensures.sizes.1

pub finish-requires : goal.finish-requires
finish-requires c = stops_at_end c.loop.invariant.turning.between c.fill-filled.ensures.fed

pub returns-then-matches : goal.returns-then-matches
returns-then-matches c = written_end c.loop.invariant c.fill-filled.ensures c.finish.ensures

pub loop-preserved : goal.loop-preserved
loop-preserved c =
    sending_on c.loop.invariant c.fill-filled.ensures c.advance-next.ensures c.emit-wrote.ensures (sym c.goes_on.ensures ∙ c.if-goes_on.true) c.if-wrote.true

pub returns-in-loop : goal.returns-in-loop
returns-in-loop c = written_stop c.loop.invariant c.fill-filled.ensures c.advance-next.ensures c.emit-wrote.ensures c.stop.ensures

pub returns : goal.returns
returns c = written_none _ c.loop.turn _ c.loop.invariant.turning.between.goes_on c.ended.ensures
