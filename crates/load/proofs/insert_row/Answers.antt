-- `insert_row`: the row is put in at its place. Assumes nothing.
use Rattle.std.proofs.Common.{arith, rules}
use Rattle.load.proofs.InsertLaws.{place_le}
use Rattle.load.proofs.insert_row.Goals as goal

pub insert-requires : goal.insert-requires
insert-requires g c = (omega arith, (place_le _ _ _ _ c.place-i.ensures, (c.requires.1, search rules)))
