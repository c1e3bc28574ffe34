-- `place`: by the first free cell, and the slot. Assumes nothing.
use Rattle.std.proofs.Common.{sym, ◌∙◌}
use Rattle.std.proofs.lemmas.Result.{err_from_is_err_and}
use Rattle.envelope.proofs.ChoiceLaws.{place_none, place_last, place_at}
use Rattle.envelope.proofs.place.Goals as goal

pub returns-in_err-cell : goal.returns-in_err-cell
returns-in_err-cell c =
    let p = err_from_is_err_and c.from_residual.result c.from_residual.ensures.1 in
    rw (p.1, p.2) (place_none _ _ _ _ c.free_carried_cell.ensures _ (sym c.ok_or.ensures.value ∙ c.in_err-cell.was))

pub returns-then-next_slot-eq18446744073709551615 : goal.returns-then-next_slot-eq18446744073709551615
returns-then-next_slot-eq18446744073709551615 c =
    place_last _ _ _ _ c.free_carried_cell.ensures _ (sym c.ok_or.ensures.value ∙ c.in_ok-cell.was) c.if-next_slot-eq18446744073709551615.true

pub returns : goal.returns
returns c =
    place_at _ _ _ _ c.free_carried_cell.ensures _ (sym c.ok_or.ensures.value ∙ c.in_ok-cell.was) c.if-next_slot-eq18446744073709551615.false
