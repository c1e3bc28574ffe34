-- `state::CourierConfig::new` meets its contract: the four tests are the range. Assumes nothing.
use Rattle.std.proofs.Common.{arith}
use Rattle.state.proofs.ConfigLaws.{refused, taken}
use Rattle.state.proofs.CourierConfig.new.Goals as goal

pub returns-then-copies-lt-COPIES_MIN : goal.returns-then-copies-lt-COPIES_MIN
returns-then-copies-lt-COPIES_MIN c = refused c.args.enabled c.args.copies c.args.lifetime (λ w. omega arith)

pub returns : goal.returns
returns c = taken c.args.enabled c.args.copies c.args.lifetime (omega arith)
