-- `holdings::window::key_below`: the order of tuples is the model's. Assumes nothing.
use Rattle.std.proofs.Common.{◌∙◌}
use Rattle.holdings.proofs.WindowLaws.{key_order}
use Rattle.holdings.proofs.window.key_below.Goals as goal

pub returns : goal.returns
returns c = c.lt.ensures ∙ key_order c.args.a c.args.b
