-- What `Held::row` makes of the row and its ciphertext.
use Rattle.std.proofs.Common.{rules}
use Rattle.model.specs.Exchange.{carried_envelope_of}
use Rattle.saved.proofs.BlobLaws.{carried_blobbed}
use Rattle.saved.proofs.CarriedSaved.blob.Goals as goal

pub returns : goal.returns
unfolding carried_envelope_of
returns c =
    carried_blobbed _ _ (search rules, search rules) _ _ _ _ _ _ c.requires c.cell_part-ct.ensures (rw c.carried_header.ensures) c.carried_row.ensures c.unwrap.ensures
