use Rattle.kdf.proofs.KdfLaws.{head_written}
use Rattle.kdf.proofs.head_of.Goals as goal

pub returns : goal.returns
returns c = head_written c.args.label.now _ _ c.put_u16.ensures c.copy_in.ensures
