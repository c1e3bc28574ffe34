-- The row that is read is the one at the place; its header and its ciphertext follow.
use Rattle.fetch.proofs.Laws.{given_own}
use Rattle.fetch.proofs.give_own.Goals as goal

pub returns : goal.returns
returns c =
    given_own _ _ _ _ _ _ _ _ c.read-row.ensures c.own_cell.ensures c.own_header.ensures
    c.put_envelope.ensures c.cell_part.ensures
