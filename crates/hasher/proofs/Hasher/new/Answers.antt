use Rattle.hasher.proofs.TakenLaws.{taken_none}
use Rattle.hasher.proofs.Hasher.new.Goals as goal

pub returns : goal.returns
returns c = taken_none _ _ c.start.ensures
