use Rattle.kdf.proofs.KdfLaws.{hash_bytes}
use Rattle.kdf.proofs.hash_of.Goals as goal

pub returns : goal.returns
returns c = hash_bytes c.args.label.now c.args.x.now _ c.head_of-head.ensures (c.finish.ensures _ (c.update_parts.ensures.by_index _ c.new.ensures))
