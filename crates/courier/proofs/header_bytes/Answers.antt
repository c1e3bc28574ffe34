-- `courier::header_bytes` meets its contract: four runs, one after the other, fill the array (`header_made`). Assumes nothing.
use Rattle.std.proofs.Common.{refl, rules}
use Rattle.courier.proofs.HeaderLaws.{Proper, header_made}
use Rattle.courier.proofs.header_bytes.Goals as goal

pub returns : goal.returns
returns c =
    let h : Proper c.args.h = record { tag = search rules; c = search rules; expiry = search rules; copies = search rules } in
    header_made c.args.h h _ _ _ _ refl c.put_array.ensures.0 c.put_array-2.ensures.0 c.put_u32.ensures
