use Rattle.state.proofs.ReaderLaws.{number_some}
use Rattle.state.proofs.u64_at.Goals as goal

pub returns : goal.returns
returns c = number_some 7 c.args.s.now c.args.at c.in_ok-array_at.ensures c.from_be_bytes.ensures
