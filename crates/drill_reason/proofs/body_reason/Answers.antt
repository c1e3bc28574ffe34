-- By whether the grammar takes the body. Assumes nothing.
use Rattle.drill_reason.proofs.ReasonLaws.{body_right, body_wrong}
use Rattle.drill_reason.proofs.body_reason.Goals as goal

pub returns-in-Some : goal.returns-in-Some
returns-in-Some c = body_right c.args.mark _ c.in-Some.ensures.is

pub returns-in-None : goal.returns-in-None
returns-in-None c = body_wrong c.args.mark c.in-None.ensures.whole c.field_of.ensures
