-- Nothing is left, or a record that is not all there. Assumes nothing.
use Rattle.std.proofs.Common.{arith, rules}
use Rattle.drill_turn.proofs.StreamLaws.{ends_between, ends_inside}
use Rattle.drill_turn.proofs.at_end.Goals as goal

pub returns-then-turn : goal.returns-then-turn
returns-then-turn c = record { near = omega arith; ends = ends_between c.args.turn (omega (arith, c.if-turn.true)) }

pub returns : goal.returns
returns c = record {
  near = omega (arith, c.last_line.ensures.next, c.last_line.ensures.near);
  ends = ends_inside c.args.turn (omega (arith, c.if-turn.false)) c.last_line.ensures (search rules);
}
