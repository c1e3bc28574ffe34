-- `renew_expired`: as it is before its expiry, else with another expiry and other copies. Assumes nothing.
use Rattle.model.specs.Maintenance.{renewed}
use Rattle.maintenance.proofs.TestLaws.{renewed_live, renewed_expired}
use Rattle.maintenance.proofs.renew_expired.Goals as goal

pub returns-then-minute-row : goal.returns-then-minute-row
returns-then-minute-row c = renewed_live _ _ _ _ c.if-minute-row.true

pub returns : goal.returns
unfolding renewed
returns c = renewed_expired _ _ _ _ c.if-minute-row.false
