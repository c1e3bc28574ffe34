-- The fields are written one after the other, and fill the area.
use Rattle.std.proofs.Common.{refl}
use Rattle.boundary.specs.Boundary.{exchange_bytes}
use Rattle.rows.proofs.Laid.{start, number, whole}
use Rattle.boundary.proofs.exchange_bytes.Goals as goal

pub returns : goal.returns
unfolding exchange_bytes
returns c =
    whole (number 8 _ (number 8 _ (number 8 _ (number 1 _ (number 1 _ start c.put_u8.ensures) c.put_u8-2.ensures) c.put_u64.ensures) c.put_u64-2.ensures) c.put_u64-3.ensures) refl
