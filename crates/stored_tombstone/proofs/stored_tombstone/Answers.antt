-- The test of the action area, and then the choice.
use Rattle.std.proofs.lemmas.Result.{err_from_is_err_and}
use Rattle.stored_tombstone.proofs.CallLaws.{says_short, says_refused, says_stored_lem}
use Rattle.stored_tombstone.proofs.stored_tombstone.Goals as goal

pub returns-then-short_actions : goal.returns-then-short_actions
returns-then-short_actions c a = says_short _ _ _ _ _ _ a c.if-short_actions.ensures

pub returns-in_err-how : goal.returns-in_err-how
returns-in_err-how c a =
    let p = err_from_is_err_and c.from_residual.result c.from_residual.ensures.1 in
    rw (p.1, p.2) (says_refused _ _ _ _ _ _ a c.if-short_actions.ensures _ c.in_err-how.ensures.0)

pub returns : goal.returns
returns c a =
    says_stored_lem _ _ _ _ _ _ a c.if-short_actions.ensures _ _ _ _ _ c.in_ok-how.ensures.0 c.store_tombstone.ensures.0
