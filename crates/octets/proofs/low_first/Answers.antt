use Rattle.octets.proofs.Numbers.{low_read, bytes_of}
use Rattle.octets.proofs.low_first.Goals as goal

pub returns : goal.returns
returns c = (low_read c.args.a.now c.args.at 7 c.requires c.get_array.ensures c.from_le_bytes.ensures, bytes_of _ c.type_inv.a)
