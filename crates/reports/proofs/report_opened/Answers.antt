-- The tests in order, and then the choice.
use Rattle.std.proofs.Common.{min, ap, ◌∙◌, ◌+◌, ◌*◌, ◌/◌, ◌||◌, ltb, length}
use Rattle.std.proofs.lemmas.Result.{err_from_is_err_and}
use Rattle.reports.proofs.CallLaws.{opened_short, opened_stranger, opened_refused, opened_stored}
use Rattle.reports.proofs.report_opened.Goals as goal
use Rattle.reports.proofs.report_opened.Goals.{then-short_replies-via-then-short_replies, then-short_replies-via-else-short_replies+then-short_actions}

pub returns-then-short_replies : goal.returns-then-short_replies
returns-then-short_replies c a = opened_short _ _ _ _ _ _ _ _ _ a (elim c.then-short_replies.branch [
  | then-short_replies-via-then-short_replies w ↦ λ j. w.if-short_replies.ensures j || ltb (length c.args.actions.now) (13 * (512 + length c.args.tombstones.now / 44))
  | then-short_replies-via-else-short_replies+then-short_actions w ↦ λ j. w.if-short_replies.ensures j || w.if-short_actions.ensures j
])

pub returns-then-not-known : goal.returns-then-not-known
returns-then-not-known c a =
    opened_stranger _ _ _ _ _ _ _ _ _ a (λ j. c.if-short_replies.ensures j || c.if-short_actions.ensures j) c.if-not-known.ensures

pub returns-in_err-how : goal.returns-in_err-how
returns-in_err-how c a =
    let p = err_from_is_err_and c.from_residual.result c.from_residual.ensures.1 in
    rw (p.1, p.2) (opened_refused _ _ _ _ _ _ _ _ _ a (λ j. c.if-short_replies.ensures j || c.if-short_actions.ensures j) c.if-not-known.ensures _ c.in_err-how.ensures.0)

pub returns : goal.returns
returns c a =
    opened_stored _ _ _ _ _ _ _ _ _ a (λ j. c.if-short_replies.ensures j || c.if-short_actions.ensures j) c.if-not-known.ensures _ _ _ _ _ _ _ c.in_ok-how.ensures.0 (c.min-until.ensures ∙ ap (min c.args.expiry) c.lifetime_end.ensures) c.put_tomb.ensures c.store_tombstone.ensures.0
