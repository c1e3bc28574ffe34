-- `slot_twice`: where slots ascend none is, else they are counted. Assumes nothing.
use Rattle.std.proofs.Common.{ltb, ap}
use Rattle.load_tests.specs.Records.{counted}
use Rattle.load_tests.proofs.Against.slot_twice.Goals as goal

pub returns : goal.returns
unfolding counted
returns c = ap (ltb 1) c.count.ensures
