-- The row that is read is the one at the place; its header and its ciphertext follow.
use Rattle.fetch.proofs.Laws.{given_carried}
use Rattle.fetch.proofs.give_carried.Goals as goal

pub returns : goal.returns
returns c =
    given_carried _ _ _ _ _ _ _ _ c.read-row.ensures c.carried_cell.ensures c.carried_header.ensures
    c.put_envelope.ensures c.cell_part.ensures
