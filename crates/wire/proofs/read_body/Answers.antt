use Rattle.std.proofs.Common.{refl}
use Rattle.wire.proofs.BodyLaws.{told_fit, told_unfit}
use Rattle.wire.proofs.read_body.Goals as goal

pub returns-then-is_fit : goal.returns-then-is_fit
returns-then-is_fit c = told_fit _ _ _ c.is_fit.ensures c.if-is_fit.true c.values_of.ensures

pub returns-else-is_fit : goal.returns-else-is_fit
returns-else-is_fit c = told_unfit _ _ _ c.is_fit.ensures c.if-is_fit.false refl
