-- What the choice says, and the row that ends by it.
use Rattle.std.proofs.lemmas.Result.{err_from_is_err_and}
use Rattle.tombs.proofs.CallLaws.{not_ended, is_ended}
use Rattle.tombs.proofs.end_own.Goals as goal

pub returns-in_err-how : goal.returns-in_err-how
returns-in_err-how c a =
    let p = err_from_is_err_and c.from_residual.result c.from_residual.ensures.1 in
    rw (p.1, p.2) (not_ended _ _ _ _ _ _ _ a _ c.in_err-how.ensures.0)

pub returns : goal.returns
returns c a = is_ended _ _ _ _ _ _ _ a _ c.in_ok-how.ensures.0 c.end_row.ensures
