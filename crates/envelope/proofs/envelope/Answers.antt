-- One match on the choice: what it says of the areas is the model's step, and what the writes ask follows from it. Assumes nothing.
use Rattle.std.proofs.Common.{ap, ◌∙◌, arith, rules, Ok}
use Rattle.std.proofs.lemmas.Result.{err_from_is_err_and}
use Rattle.envelope.proofs.CallLaws.{room_to_take, room_to_list, room_to_say, ours_row, says_refused, says_ours, says_code, says_taken}
use Rattle.envelope.proofs.envelope.Goals as goal

pub ours_at-requires : goal.ours_at-requires
ours_at-requires c =
    ours_row _ _ _ c.args.ct.now _ _ _ _ _ c.args.carried_cells.now c.args.replies.now c.args.actions.now _ c.decide.ensures _ (c.in_ok-choice.was ∙ ap Ok c.in-Ours.is)

pub put_custody-requires : goal.put_custody-requires
put_custody-requires c =
    omega (arith, room_to_say _ _ _ c.args.ct.now _ _ _ _ _ c.args.carried_cells.now c.args.replies.now c.args.actions.now _ c.decide.ensures _ (c.in_ok-choice.was ∙ ap Ok c.in-Code.is))

pub carry-requires : goal.carry-requires
carry-requires c =
    room_to_take _ _ _ c.args.ct.now _ _ _ _ _ c.args.carried_cells.now c.args.replies.now c.args.actions.now _ c.decide.ensures _ (c.in_ok-choice.was ∙ ap Ok c.in-Take.is) (search (rules, c.well_formed.0)) (search rules)

pub put_custody-requires-in-Take : goal.put_custody-requires-in-Take
put_custody-requires-in-Take c =
    let h = room_to_list _ _ _ c.args.ct.now _ _ _ _ _ c.args.carried_cells.now c.args.replies.now c.args.actions.now _ c.decide.ensures _ (c.in_ok-choice.was ∙ ap Ok c.in-Take.is) in
    omega (arith, h.reply)

pub put_courier-requires : goal.put_courier-requires
put_courier-requires c =
    let h = room_to_list _ _ _ c.args.ct.now _ _ _ _ _ c.args.carried_cells.now c.args.replies.now c.args.actions.now _ c.decide.ensures _ (c.in_ok-choice.was ∙ ap Ok c.in-Take.is) in
    omega (arith, h.action)

pub returns-in_err-choice : goal.returns-in_err-choice
returns-in_err-choice c a =
    let p = err_from_is_err_and c.from_residual.result c.from_residual.ensures.1 in
    rw (p.1, p.2) (says_refused _ _ _ _ _ _ _ _ _ _ _ _ _ c.decide.ensures a _ c.in_err-choice.was)

pub returns-in-Ours : goal.returns-in-Ours
returns-in-Ours c a =
    says_ours _ _ _ _ _ _ _ _ _ _ _ _ _ c.decide.ensures a _ _ (c.in_ok-choice.was ∙ ap Ok c.in-Ours.is) c.ours_at.ensures

pub returns-in-Code : goal.returns-in-Code
returns-in-Code c a =
    says_code _ _ _ _ _ _ _ _ _ _ _ _ _ c.decide.ensures a _ _ (c.in_ok-choice.was ∙ ap Ok c.in-Code.is) c.put_custody.ensures

pub returns-in-Take : goal.returns-in-Take
returns-in-Take c a =
    let h = room_to_list _ _ _ c.args.ct.now _ _ _ _ _ c.args.carried_cells.now c.args.replies.now c.args.actions.now _ c.decide.ensures _ (c.in_ok-choice.was ∙ ap Ok c.in-Take.is) in
    says_taken _ _ _ _ _ _ _ _ _ _ _ _ _ c.decide.ensures a _ _ _ _ _ _ (c.in_ok-choice.was ∙ ap Ok c.in-Take.is) h.same c.carry.ensures
    c.put_custody-in-Take.ensures c.put_courier.ensures
