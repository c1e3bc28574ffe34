-- Each way out is one row of the model's tests, or what its search finds.
use Rattle.std.proofs.Common.{sym, arith, ltb-false}
use Rattle.fetch.proofs.CallLaws.{own_row, carried_row_lem, says_short, says_stranger, says_own, says_carried, says_nothing}
use Rattle.fetch.proofs.fetch.Goals as goal

pub returns-then-short_replies : goal.returns-then-short_replies
returns-then-short_replies c a = says_short _ _ _ _ _ _ _ _ _ a (sym c.if-short_replies.ensures)

pub returns-then-not-known : goal.returns-then-not-known
returns-then-not-known c a =
    says_stranger _ _ _ _ _ _ _ _ _ a (sym c.if-short_replies.ensures) (sym c.if-not-known.ensures)

pub overflow_mul-i : goal.overflow_mul-i
overflow_mul-i c =
    omega (arith, own_row _ _ _ _ c.in-Some.ensures)

pub give_own-requires : goal.give_own-requires
give_own-requires c =
    (omega (arith, own_row _ _ _ _ c.in-Some.ensures), omega (arith, ltb-false _ _ (sym c.if-short_replies.ensures)))

pub overflow_mul-at : goal.overflow_mul-at
overflow_mul-at c =
    omega (arith, carried_row_lem _ _ _ c.in-Some-carried_of_tag.ensures)

pub give_carried-requires : goal.give_carried-requires
give_carried-requires c =
    (omega (arith, carried_row_lem _ _ _ c.in-Some-carried_of_tag.ensures), omega (arith, ltb-false _ _ (sym c.if-short_replies.ensures)))

pub returns-in-Some : goal.returns-in-Some
returns-in-Some c a =
    says_own _ _ _ _ _ _ _ _ _ a (sym c.if-short_replies.ensures) (sym c.if-not-known.ensures) _ _ _
    c.in-Some.ensures c.give_own.ensures

pub returns-in-Some-carried_of_tag : goal.returns-in-Some-carried_of_tag
returns-in-Some-carried_of_tag c a =
    says_carried _ _ _ _ _ _ _ _ _ a (sym c.if-short_replies.ensures) (sym c.if-not-known.ensures) _ _ _
    c.in-None.ensures c.in-Some-carried_of_tag.ensures c.give_carried.ensures

pub returns-in-None-carried_of_tag : goal.returns-in-None-carried_of_tag
returns-in-None-carried_of_tag c a =
    says_nothing _ _ _ _ _ _ _ _ _ a (sym c.if-short_replies.ensures) (sym c.if-not-known.ensures)
    c.in-None.ensures c.in-None-carried_of_tag.ensures
