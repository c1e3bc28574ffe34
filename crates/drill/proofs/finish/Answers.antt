-- By whether the input ended, and by whether its last line was sent. Assumes nothing.
use Rattle.std.proofs.Common.{◌∙◌, sym}
use denote.Enum.Bare.{differs_false}
use Rattle.drill_log.specs.contracts.Why.{the_type}
use Rattle.drill_log.specs.declared.Why.TheVariants as cause
use Rattle.drill.proofs.WrittenLaws.{finishes_ended}
use Rattle.drill.proofs.finish.Goals as goal

pub returns-then-wrote : goal.returns-then-wrote
returns-then-wrote c =
    finishes_ended c.args.turn (differs_false the_type tt c.args.turn.why cause.Ended (sym c.ne.ensures ∙ c.if-ne.false))
    c.at_end-n.ensures c.emit-wrote.ensures c.if-wrote.true c.ended-then-wrote.ensures
