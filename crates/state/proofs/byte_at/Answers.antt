use Rattle.state.proofs.ReaderLaws.{byte_some}
use Rattle.state.proofs.byte_at.Goals as goal

pub returns : goal.returns
returns c = byte_some c.args.s.now c.args.at c.in_ok-array_at.ensures
