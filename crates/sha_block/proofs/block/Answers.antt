use Rattle.sha_block.proofs.Steps.{steps}
use Rattle.sha_block.proofs.block.Goals as goal

pub returns : goal.returns
returns c = steps _ _ c.load.result c.load.ensures c.extend-w.ensures c.rounds.ensures c.add_to.ensures
